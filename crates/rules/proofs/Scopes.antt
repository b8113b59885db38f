-- What is in scope, and shallow, in the parts of a formula.
use Prim.Native.Nat.{ℕ, suc}
use mathlib.Core.Path.{◌≡◌, sym}
use mathlib.Core.Bool.{true}
use Rattle.lists.proofs.Cases.{no_both, and_left, and_right}
use Rattle.rules.specs.Formula.{Formula, both, neg, exists, Scope, enter, scoped, shallow}

module _ (f g : Formula) (s : Scope) where
  pub scoped_both_left : scoped (both f g) s ≡ true → scoped f s ≡ true
  unfolding scoped
  scoped_both_left e = and_left (scoped f s) (scoped g s) e

  pub scoped_both_right : scoped (both f g) s ≡ true → scoped g s ≡ true
  unfolding scoped
  scoped_both_right e = and_right (scoped f s) (scoped g s) e

module _ (f : Formula) (s : Scope) where
  pub scoped_neg : scoped (neg f) s ≡ true → scoped f s ≡ true
  unfolding scoped
  scoped_neg e = e

  pub scoped_exists : (v : ℕ) → scoped (exists v f) s ≡ true → scoped f (enter s v) ≡ true
  unfolding scoped
  scoped_exists v e = e

module _ (f g : Formula) (n : ℕ) where
  pub shallow-both_left : shallow n (both f g) ≡ true → shallow n f ≡ true
  unfolding shallow
  shallow-both_left e = and_left (shallow n f) (shallow n g) e

  pub shallow-both_right : shallow n (both f g) ≡ true → shallow n g ≡ true
  unfolding shallow
  shallow-both_right e = and_right (shallow n f) (shallow n g) e

module _ (f : Formula) where
  pub shallow-neg : (n : ℕ) → shallow n (neg f) ≡ true → shallow n f ≡ true
  unfolding shallow
  shallow-neg n e = e

  -- inside a "some" there is room for one less
  pub shallow-exists : (n v : ℕ) → shallow (suc n) (exists v f) ≡ true → shallow n f ≡ true
  unfolding shallow
  shallow-exists n v e = e

  pub shallow_none : (v : ℕ) → shallow 0 (exists v f) ≡ true → ⊥
  unfolding shallow
  shallow_none v e = no_both (sym e)
