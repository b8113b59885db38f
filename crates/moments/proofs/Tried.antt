-- The search for a run, run after run.
use Prim.Native.Nat.{ℕ, ◌+◌, ◌<◌}
use mathlib.Core.Path.{◌≡◌, refl, sym, subst, ap, ap₂, ◌∙◌}
use mathlib.Core.Bool.{Bool, true, false, not, ◌&&◌, ◌||◌, and-false}
use native.Mathlib.Numerals.{add-one}
use lib.Dec.{leb}
use Rattle.lists.specs.Lists.{any_below}
use Rattle.lists.proofs.Cases.{no_both}
use Rattle.sets.specs.Sets.{mem}
use Rattle.sets.specs.declared.RunSet.{RunSet}
use Rattle.set_table.specs.Rows.{LeftOf}
use Rattle.rules.specs.Formula.{Formula, exists}
use Rattle.logic.specs.Satisfies.{Binding, bind}
use Rattle.logic.specs.Model.{Model, eval}
use Rattle.row_table.specs.Truth.{truth, at, TrueAt, FalseWithout}
use Rattle.row_table.proofs.Marks.{at_bind}

-- With d: the moment is in dom, a: a run tried before serves, l: run r is finished, f: the body holds with run r, k: run r is kept.
one_more : (d a l f k : Bool) → (k ≡ false → f ≡ false) → ((d && a) || ((k && ((d && l) && not (d && a))) && f)) ≡ (d && (a || (l && f)))
one_more false a l f true h = refl
one_more true true l f true h = refl
one_more true false true f true h = refl
one_more true false false f true h = refl
one_more false a l f false h = refl
one_more true true l f false h = refl
one_more true false true f false h = sym (h refl)
one_more true false false f false h = refl

none_left : (d a l f k : Bool) → (k ≡ false → f ≡ false) → (k && ((d && l) && not (d && a))) ≡ false → (d && a) ≡ (d && (a || (l && f)))
none_left false a l f k h e = refl
none_left true true l f k h e = refl
none_left true false false f k h e = refl
none_left true false true f true h e = no_both e
none_left true false true f false h e = sym (h refl)

module _ (M : Model) (f : Formula) (ρ : Binding) (v : ℕ) (dom : RunSet) where
  -- run i is finished at moment j, and the body holds with variable v at it
  abbrev serves : ℕ → ℕ → Bool
  serves j i = leb i j && truth M f (bind (at ρ j) v i) j

  -- got has the moments of dom at which a run below r serves
  abbrev pub Tried : RunSet → ℕ → Type 0
  Tried got r = (j : ℕ) → j < 128 → mem got j ≡ (mem dom j && any_below r (serves j))

  pub tried_none : (got : RunSet) → ((j : ℕ) → mem got j ≡ false) → Tried got 0
  tried_none got e j h = e j ∙ sym (and-false (mem dom j))

  pub tried_all : (got : RunSet) (r : ℕ) → r ≡ M.runs → Tried got r → TrueAt M (exists v f) ρ dom got
  unfolding eval
  tried_all got r e h j l = subst (λ (n : ℕ). mem got j ≡ (mem dom j && any_below n (serves j))) e (h j l)

  module _ (got keep left : RunSet) (r : ℕ) (dropped : FalseWithout M f ρ v keep) (fin : r < M.runs) (hl : LeftOf dom got keep r left) (old : Tried got r) where
    left_is : (j : ℕ) → j < 128 → mem left j ≡ (mem keep r && ((mem dom j && leb r j) && not (mem dom j && any_below r (serves j))))
    left_is j h = hl j ∙ ap (λ (y : Bool). mem keep r && ((mem dom j && leb r j) && not y)) (old j h)

    pub tried_more : (found next : RunSet) (σ : Binding) → r < 128 → σ ≡ bind ρ v r → TrueAt M f σ left found → ((j : ℕ) → mem next j ≡ (mem got j || mem found j)) → Tried next (r + 1)
    tried_more found next σ low e hf hn j h =
        let t = truth M f (bind (at ρ j) v r) j in
        let q : mem found j ≡ (mem left j && t) = hf j h ∙ ap (λ (τ : Binding). mem left j && truth M f τ j) (ap (λ (τ : Binding). at τ j) e ∙ at_bind ρ v r j low) in
        rw (add-one r)
        (hn j ∙ (ap₂ ◌||◌ (old j h) (q ∙ ap (λ (x : Bool). x && t) (left_is j h))
        ∙ one_more (mem dom j) (any_below r (serves j)) (leb r j) t (mem keep r) (λ z. dropped r fin z j j)))

    pub tried_skip : ((j : ℕ) → mem left j ≡ false) → Tried got (r + 1)
    tried_skip z j h =
        rw (add-one r)
        (old j h ∙ none_left (mem dom j) (any_below r (serves j)) (leb r j) (truth M f (bind (at ρ j) v r) j) (mem keep r) (λ q. dropped r fin q j j)
        (sym (left_is j h) ∙ z j))
