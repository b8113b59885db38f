-- Four numbers, each at most 1, fit.
use native.Mathlib.Omega.{arith}
use Rattle.positions.proofs.Ranks.{one_at_most}
use Rattle.positions.proofs.rank.Goals as goal

pub overflow_add-result : goal.overflow_add-result
overflow_add-result c = let a = one_at_most _ _ _ c.one_below.ensures in
    let b = one_at_most _ _ _ c.one_below-2.ensures in
    record { fits = omega arith }

pub overflow_add-result-2 : goal.overflow_add-result-2
overflow_add-result-2 c = let a = one_at_most _ _ _ c.one_below.ensures in
    let b = one_at_most _ _ _ c.one_below-2.ensures in
    let d = one_at_most _ _ _ c.one_below-3.ensures in
    record { fits = omega arith }

pub overflow_add-result-3 : goal.overflow_add-result-3
overflow_add-result-3 c = let a = one_at_most _ _ _ c.one_below.ensures in
    let b = one_at_most _ _ _ c.one_below-2.ensures in
    let d = one_at_most _ _ _ c.one_below-3.ensures in
    let e = one_at_most _ _ _ c.one_below-4.ensures in
    record { fits = omega arith }
