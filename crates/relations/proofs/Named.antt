-- Why the signs of four positions name their relation. Runs that are neither before nor after each other relate only if
-- they have a common moment; then which starts first and which finishes first decide.
use Prim.Native.Nat.{ℕ, ◌+◌, ◌*◌, ◌≤◌}
use mathlib.Core.Path.{◌≡◌}
use native.Mathlib.Omega.{arith}
use Rattle.lists.proofs.Cases.{either_lt}
use Rattle.positions.specs.declared.Signs.{Signs}
use Rattle.positions.specs.Comparison.{signs_of, CommonMoment}
use Rattle.positions.proofs.Signed.{Signed}
use Rattle.positions.proofs.Common.{of_before, of_after}
use Rattle.relations.specs.Relation.{before, after, Relates, relation_of}
use Rattle.relations.proofs.Relation as relation

module _ (s f t g : ℕ) where
  pub apart_none : t ≤ f → s ≤ g → (CommonMoment s f t g → ⊥) → 0 ≡ relation_of s f t g
  apart_none p q n =
      relation.says_none s f t g p q
      (λ h. n (omega arith)) (λ h. n (omega arith)) (λ h. n (omega arith)) (λ h. n (omega arith))

  -- which starts first and which finishes first: the place of the two signs in a table of three times three
  module _ (x y : ℕ) (starts : Signed s t x) (finishes : Signed f g y) (k : CommonMoment s f t g) where
    pub common_overlaps : 3 * x + y ≡ 0 → 4 ≡ relation_of s f t g
    common_overlaps e =
        let h = starts.below (omega arith) in
        let j = finishes.below (omega arith) in
        relation.says_overlaps s f t g (omega arith) (omega arith) (omega arith)

    pub common_includes : 3 * x + y ≡ 2 → 16 ≡ relation_of s f t g
    common_includes e =
        let h = starts.below (omega (arith, starts.at_most, finishes.at_most)) in
        let j = finishes.above (omega (arith, starts.at_most, finishes.at_most)) in
        relation.says_includes s f t g (omega arith) (omega arith) (λ r. omega arith) (λ r. omega arith) (omega arith)

    pub common_during : 3 * x + y ≡ 6 → 32 ≡ relation_of s f t g
    common_during e =
        let h = starts.above (omega (arith, starts.at_most, finishes.at_most)) in
        let j = finishes.below (omega (arith, starts.at_most, finishes.at_most)) in
        relation.says_during s f t g (omega arith) (omega arith)
        (λ r. omega arith) (λ r. omega arith) (λ r. omega arith) (omega arith)

    pub common_overlapped : 3 * x + y ≡ 8 → 8 ≡ relation_of s f t g
    common_overlapped e =
        let h = starts.above (omega (arith, starts.at_most, finishes.at_most)) in
        let j = finishes.above (omega (arith, starts.at_most, finishes.at_most)) in
        relation.says_overlapped s f t g (omega arith) (omega arith) (λ r. omega arith) (omega arith)

    pub common_none : (3 * x + y ≡ 0 → ⊥) → (3 * x + y ≡ 2 → ⊥) → (3 * x + y ≡ 6 → ⊥) → (3 * x + y ≡ 8 → ⊥)
        → 0 ≡ relation_of s f t g
    common_none no-0 no-2 no-6 no-8 =
        relation.says_none s f t g (omega arith) (omega arith)
        (λ h. no-0 (omega (arith, starts.is_below h.0, finishes.is_below h.2)))
        (λ h. no-8 (omega (arith, starts.is_above h.0, finishes.is_above h.2)))
        (λ h. no-2 (omega (arith, starts.is_below h.0, finishes.is_above h.2)))
        (λ h. no-6 (omega (arith, starts.is_above h.0, finishes.is_below h.2)))

  -- ── the signs of the four ──
  module _ (w : Signs) (e : w ≡ signs_of s f t g) where
    pub is_before : w.before ≡ 0 → Relates before s f t g
    is_before = (of_before w s f t g e).below

    pub is_after : w.after ≡ 0 → Relates after s f t g
    is_after = (of_after w s f t g e).below

    pub not_before : (w.before ≡ 0 → ⊥) → t ≤ f
    not_before n = either_lt f t (λ h. absurd (n ((of_before w s f t g e).is_below h))) (λ h. h)

    pub not_after : (w.after ≡ 0 → ⊥) → s ≤ g
    not_after n = either_lt g s (λ h. absurd (n ((of_after w s f t g e).is_below h))) (λ h. h)
