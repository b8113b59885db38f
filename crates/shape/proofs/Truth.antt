-- What the truth of a formula depends on: the runs that its free variables stand for, and, where no "some" stands in it, nothing of
-- which runs there are and which are finished.
use Prim.Native.Nat.{ℕ}
use mathlib.Core.Path.{◌≡◌, refl, sym, ap, ap₂}
use mathlib.Core.Bool.{Bool, true, false, not, ◌&&◌, ◌||◌, cond, or-true}
use mathlib.Core.List.{List}
use lib.Dec.{eqb}
use borrow.Author.Tests.{eq-eqb}
use Rattle.lists.proofs.Below.{any_agree}
use Rattle.lists.proofs.Cases.{no_both, and_left, and_right}
use Rattle.rules.specs.Formula.{Pairing, Formula, both, neg, exists, has, pair}
use Rattle.logic.specs.Satisfies.{Binding, bind}
use Rattle.logic.specs.Model.{Model, eval}
use Rattle.shape.specs.Shape.{flat?, free?}

-- ── bindings that agree on the free variables ──
abbrev pub AgreeOnFree : Formula → Binding → Binding → Type 0
AgreeOnFree f ρ σ = (w : ℕ) → free? f w ≡ true → ρ w ≡ σ w

module _ (f g : Formula) (ρ σ : Binding) where
  both_left : AgreeOnFree (both f g) ρ σ → AgreeOnFree f ρ σ
  unfolding free?
  both_left h w e = h w (ap (λ (b : Bool). b || free? g w) e)

  both_right : AgreeOnFree (both f g) ρ σ → AgreeOnFree g ρ σ
  unfolding free?
  both_right h w e = h w (rw (e, or-true (free? f w)) refl)

bound_agree : (f : Formula) (ρ σ : Binding) (v j : ℕ) → AgreeOnFree (exists v f) ρ σ → AgreeOnFree f (bind ρ v j) (bind σ v j)
unfolding free?
bound_agree f ρ σ v j h w e = go (eqb v w) (λ n. h w (ap₂ ◌&&◌ e n))
  where
    go : (b : Bool) → (not b ≡ true → ρ w ≡ σ w) → cond b j (ρ w) ≡ cond b j (σ w)
    go true q = refl
    go false q = q refl

first_free : (u v : ℕ) → (eqb u u || eqb v u) ≡ true
first_free u v = ap (λ (b : Bool). b || eqb v u) (eq-eqb u u refl)

second_free : (u v : ℕ) → (eqb u v || eqb v v) ≡ true
second_free u v = rw (eq-eqb v v refl, or-true (eqb u v)) refl

module _ (m : Model) where
  -- truth depends on the free variables only
  pub eval_free : (f : Formula) (ρ σ : Binding) → AgreeOnFree f ρ σ → eval m ρ f ≡ eval m σ f
  unfolding eval free?
  eval_free (both f g) ρ σ h = ap₂ ◌&&◌ (eval_free f ρ σ (both_left f g ρ σ h)) (eval_free g ρ σ (both_right f g ρ σ h))
  eval_free (neg f) ρ σ h = ap not (eval_free f ρ σ h)
  eval_free (exists v f) ρ σ h =
      any_agree (λ j. m.done j && eval m (bind ρ v j) f) (λ j. m.done j && eval m (bind σ v j) f) m.runs
      (λ j l. ap (λ (b : Bool). m.done j && b) (eval_free f (bind ρ v j) (bind σ v j) (bound_agree f ρ σ v j h)))
  eval_free (has u l) ρ σ h = ap (λ (i : ℕ). m.labelled i l) (h u (eq-eqb u u refl))
  eval_free (pair p u v) ρ σ h = ap₂ (m.paired p) (h u (first_free u v)) (h v (second_free u v))

-- ── models that say the same of runs, however many there are and whichever are finished ──
pub record SameAtoms (m o : Model) : Type 0 where
  pub labelled : (j : ℕ) (l : List ℕ) → m.labelled j l ≡ o.labelled j l
  pub paired : (p : Pairing) (j k : ℕ) → m.paired p j k ≡ o.paired p j k

module _ (m o : Model) (x : SameAtoms m o) where
  -- a formula without "some" has the same truth value in both
  pub eval-flat : (f : Formula) (ρ : Binding) → flat? f ≡ true → eval m ρ f ≡ eval o ρ f
  unfolding eval flat?
  eval-flat (both f g) ρ e = ap₂ ◌&&◌ (eval-flat f ρ (and_left (flat? f) (flat? g) e)) (eval-flat g ρ (and_right (flat? f) (flat? g) e))
  eval-flat (neg f) ρ e = ap not (eval-flat f ρ e)
  eval-flat (exists v f) ρ e = no_both (sym e)
  eval-flat (has v l) ρ e = x.labelled (ρ v) l
  eval-flat (pair p v w) ρ e = x.paired p (ρ v) (ρ w)
