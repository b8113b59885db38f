-- The lines passed hold. So the first line whose verdict is that it fails is the first that fails.
use Rattle.timeline.proofs.FirstLine.{HoldTo}
use Rattle.timeline.proofs.first_fails.Given as goal

abbrev pub invariant-loop-line : goal.invariant-loop-line
invariant-loop-line l = HoldTo l.x l.line
