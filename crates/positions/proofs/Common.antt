-- What the signs of four positions say of a common moment.
use Prim.Native.Nat.{ℕ}
use mathlib.Core.Path.{◌≡◌, ap}
use Rattle.positions.specs.declared.Signs.{Signs}
use Rattle.positions.specs.Comparison.{signs_of, CommonMoment}
use Rattle.positions.proofs.Signed.{Signed, signed}

module _ (w : Signs) (s f t g : ℕ) (e : w ≡ signs_of s f t g) where
  pub of_before : Signed f t w.before
  of_before = signed f t _ (ap (λ v. v.before) e)

  pub of_after : Signed g s w.after
  of_after = signed g s _ (ap (λ v. v.after) e)

  of_first : Signed s f w.first
  of_first = signed s f _ (ap (λ v. v.first) e)

  of_second : Signed t g w.second
  of_second = signed t g _ (ap (λ v. v.second) e)

  pub has_common : w.before ≡ 2 → w.after ≡ 2 → w.first ≡ 0 → w.second ≡ 0 → CommonMoment s f t g
  has_common a b c d = (of_before.above a, of_after.above b, of_first.below c, of_second.below d)

  pub common_before : CommonMoment s f t g → w.before ≡ 2
  common_before k = of_before.is_above k.0

  pub common_after : CommonMoment s f t g → w.after ≡ 2
  common_after k = of_after.is_above k.1

  pub common_first : CommonMoment s f t g → w.first ≡ 0
  common_first k = of_first.is_below k.2

  pub common_second : CommonMoment s f t g → w.second ≡ 0
  common_second k = of_second.is_below k.3
