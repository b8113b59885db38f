-- What truth at a moment depends on: not on the moment where there is no "some", and only on the variables that stand free.
use Prim.Native.Nat.{ℕ, suc, ◌≤◌}
use mathlib.Core.Path.{◌≡◌, refl, sym, ◌∙◌}
use mathlib.Core.Bool.{Bool, true, false, ◌&&◌}
use native.Mathlib.Omega.{arith}
use lib.Dec.{ltb, leb}
use borrow.Author.Tests.{ltb-true, leb-true, lt-ltb, le-leb}
use Rattle.lists.specs.Lists.{any_below}
use Rattle.lists.proofs.Below.{any_agree, found_yes, found_at}
use Rattle.lists.proofs.Cases.{and_left, and_right}
use Rattle.sets.specs.Sets.{any_up_to}
use Rattle.rules.specs.Formula.{Formula}
use Rattle.logic.specs.Satisfies.{Binding}
use Rattle.logic.specs.Model.{Model}
use Rattle.row_table.specs.Truth.{at_moment, truth}
use Rattle.shape.specs.Shape.{flat?, height}
use Rattle.shape.proofs.Shapes.{flat-height}
use Rattle.shape.proofs.Truth.{AgreeOnFree, eval_free, eval-flat}

-- height 0 is no "some"
pub height-flat : (f : Formula) → height f ≡ 0 → flat? f ≡ true
height-flat f e = flat-height f ∙ le-leb (height f) 0 (omega arith)

-- ── what truth at a moment depends on ──
module _ (M : Model) (m n : ℕ) where
  -- not on the moment, where there is no "some"
  pub flat-truth : (f : Formula) (ρ : Binding) → flat? f ≡ true → truth M f ρ m ≡ truth M f ρ n
  flat-truth = eval-flat (at_moment M m) (at_moment M n) (record { labelled = λ i l. refl; paired = λ p i k. refl })

-- on the free variables only
pub free_truth : (M : Model) (m : ℕ) (f : Formula) (ρ σ : Binding) → AgreeOnFree f ρ σ → truth M f ρ m ≡ truth M f σ m
free_truth M m = eval_free (at_moment M m)

-- ── a search ──
pub same_truth : (x y : Bool) → (x ≡ true → y ≡ true) → (y ≡ true → x ≡ true) → x ≡ y
same_truth true y f g = sym (f refl)
same_truth false true f g = g refl
same_truth false false f g = refl

-- the runs up to moment m among the first n are the first n among those up to m
module _ (n m : ℕ) (p : ℕ → Bool) where
  abbrev among : ℕ → Bool
  among i = ltb i n && p i

  abbrev up : ℕ → Bool
  up i = leb i m && p i

  to_first : any_below (suc m) among ≡ true → any_below n up ≡ true
  to_first e =
      let w = found_at among (suc m) e in
      let q = and_right (ltb w.0 n) (p w.0) w.2 in
      found_yes up n w.0 (ltb-true w.0 n (and_left (ltb w.0 n) (p w.0) w.2)) (rw (le-leb w.0 m (omega arith), q) refl)

  to_moment : any_below n up ≡ true → any_below (suc m) among ≡ true
  to_moment e =
      let w = found_at up n e in
      let l = leb-true w.0 m (and_left (leb w.0 m) (p w.0) w.2) in
      let q = and_right (leb w.0 m) (p w.0) w.2 in
      found_yes among (suc m) w.0 (omega arith) (rw (lt-ltb w.0 n w.1, q) refl)

  pub up_to_moment : any_up_to m among ≡ any_below n up
  up_to_moment = same_truth _ _ to_first to_moment

pub any_up_agree : (p q : ℕ → Bool) (m : ℕ) → ((j : ℕ) → j ≤ m → p j ≡ q j) → any_up_to m p ≡ any_up_to m q
any_up_agree p q m h = any_agree p q (suc m) (λ j l. h j (omega (arith, l)))
