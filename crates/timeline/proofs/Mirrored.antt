-- Two models that mirror each other: each finished run of one has a finished run of the other of which the same is true. They give
-- a formula the same truth value, under bindings to runs that mirror each other.
use Prim.Native.Nat.{ℕ, ◌<◌}
use mathlib.Core.Path.{◌≡◌, sym, ap, ap₂, ◌∙◌}
use mathlib.Core.Bool.{Bool, true, false, not, ◌&&◌, ◌||◌, cond}
use mathlib.Core.List.{List}
use lib.Dec.{eqb}
use Rattle.lists.specs.Lists.{any_below}
use Rattle.lists.proofs.Below.{found_yes, found_at}
use Rattle.lists.proofs.Cases.{no_both, and_left, and_right}
use Rattle.rules.specs.Formula.{Pairing, Formula, both, neg, exists, has, pair, Scope, no_scope, enter, scoped}
use Rattle.logic.specs.Satisfies.{Binding, bind}
use Rattle.logic.specs.Model.{Model, eval}
use Rattle.row_table.proofs.Truth.{same_truth}

-- a finished run of the model, of which the claim holds
pub record FinishedWith (M : Model) (P : ℕ → Type 0) : Type 0 where
  pub run : ℕ
  pub low : run < M.runs
  pub done : M.done run ≡ true
  pub with : P run

pub record Mirrors (M N : Model) (R : ℕ → ℕ → Type 0) : Type 0 where
  pub forth : (j : ℕ) → j < M.runs → M.done j ≡ true → FinishedWith N (λ r. R j r)
  pub back : (r : ℕ) → r < N.runs → N.done r ≡ true → FinishedWith M (λ j. R j r)
  pub labelled : (j r : ℕ) (l : List ℕ) → R j r → M.labelled j l ≡ N.labelled r l
  pub paired : (p : Pairing) (j r i s : ℕ) → R j r → R i s → M.paired p j i ≡ N.paired p r s

both_true : (x y : Bool) → x ≡ true → y ≡ true → x && y ≡ true
both_true true y p q = q
both_true false y p q = no_both (sym p)

module _ (M N : Model) (R : ℕ → ℕ → Type 0) (x : Mirrors M N R) where
  -- the variables in scope stand for runs that mirror each other
  abbrev MirroredOn : Scope → Binding → Binding → Type 0
  MirroredOn s ρ σ = (v : ℕ) → s v ≡ true → R (ρ v) (σ v)

  enter_mirrored : (s : Scope) (ρ σ : Binding) (v j r : ℕ) → MirroredOn s ρ σ → R j r → MirroredOn (enter s v) (bind ρ v j) (bind σ v r)
  enter_mirrored s ρ σ v j r h d w = go (eqb v w)
    where
      go : (b : Bool) → (b || s w) ≡ true → R (cond b j (ρ w)) (cond b r (σ w))
      go true e = d
      go false e = h w e

  -- a "some", by what is true of its body
  module _ (p q : ℕ → Bool) (body : (j r : ℕ) → R j r → p j ≡ q r) where
    abbrev here : ℕ → Bool
    here j = M.done j && p j

    abbrev there : ℕ → Bool
    there r = N.done r && q r

    some_forth : any_below M.runs here ≡ true → any_below N.runs there ≡ true
    some_forth e =
        let w = found_at here M.runs e in
        let d : M.done w.0 ≡ true = and_left (M.done w.0) (p w.0) w.2 in
        let y = x.forth w.0 w.1 d in
        let t : q y.run ≡ true = sym (body w.0 y.run y.with) ∙ and_right (M.done w.0) (p w.0) w.2 in
        found_yes there N.runs y.run y.low (both_true _ _ y.done t)

    some_back : any_below N.runs there ≡ true → any_below M.runs here ≡ true
    some_back e =
        let w = found_at there N.runs e in
        let d : N.done w.0 ≡ true = and_left (N.done w.0) (q w.0) w.2 in
        let y = x.back w.0 w.1 d in
        let t : p y.run ≡ true = body y.run w.0 y.with ∙ and_right (N.done w.0) (q w.0) w.2 in
        found_yes here M.runs y.run y.low (both_true _ _ y.done t)

    some_same : any_below M.runs here ≡ any_below N.runs there
    some_same = same_truth _ _ some_forth some_back

  pub mirrored_scoped : (f : Formula) (s : Scope) (ρ σ : Binding) → scoped f s ≡ true → MirroredOn s ρ σ → eval M ρ f ≡ eval N σ f
  unfolding eval scoped
  mirrored_scoped (both f g) s ρ σ e h =
      ap₂ ◌&&◌ (mirrored_scoped f s ρ σ (and_left (scoped f s) (scoped g s) e) h) (mirrored_scoped g s ρ σ (and_right (scoped f s) (scoped g s) e) h)
  mirrored_scoped (neg f) s ρ σ e h = ap not (mirrored_scoped f s ρ σ e h)
  mirrored_scoped (exists v f) s ρ σ e h =
      some_same (λ j. eval M (bind ρ v j) f) (λ r. eval N (bind σ v r) f)
      (λ j r d. mirrored_scoped f (enter s v) (bind ρ v j) (bind σ v r) e (enter_mirrored s ρ σ v j r h d))
  mirrored_scoped (has v l) s ρ σ e h = x.labelled (ρ v) (σ v) l (h v e)
  mirrored_scoped (pair p v w) s ρ σ e h = x.paired p (ρ v) (σ v) (ρ w) (σ w) (h v (and_left (s v) (s w) e)) (h w (and_right (s v) (s w) e))

  -- THE LAW: a closed formula has the same truth value in both
  pub eval_mirrored : (f : Formula) (ρ σ : Binding) → scoped f no_scope ≡ true → eval M ρ f ≡ eval N σ f
  eval_mirrored f ρ σ e = mirrored_scoped f no_scope ρ σ e (λ v h. no_both (sym h))
