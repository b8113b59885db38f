-- What is left of the first n lines stands behind the place: those of them that are not passed.
use Prim.Native.Nat.{◌≤◌}
use Rattle.whole_log.proofs.EndOf.{Reached}
use Rattle.whole_log.proofs.stop.end_of.Given as goal

abbrev pub invariant-loop-place : goal.invariant-loop-place
invariant-loop-place l = (l.passed ≤ l.n) × Reached l.log l.n l.passed l.place
