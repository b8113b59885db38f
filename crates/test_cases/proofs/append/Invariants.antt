-- The loop keeps n within the buffer.
use Rattle.std.proofs.Common.{◌≤◌, length}
use Rattle.test_cases.proofs.append.Given as goal

abbrev pub invariant-loop-c : goal.invariant-loop-c
invariant-loop-c l = l.n ≤ length l.out
