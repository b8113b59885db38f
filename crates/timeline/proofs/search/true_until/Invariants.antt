-- The loop goes on by more runs while the set has all moments of its part. By all runs the answer is right at each moment; by fewer it
-- is right up to a moment that it lacks.
use Prim.Native.Nat.{◌-◌}
use Rattle.timeline.specs.Root.{SearchEnd}
use Rattle.timeline.proofs.search.true_until.Given as goal

abbrev pub invariant-loop-end : goal.invariant-loop-end
invariant-loop-end l = SearchEnd l.count l.stop l.end

abbrev pub decreases-loop-end : goal.decreases-loop-end
decreases-loop-end l = l.count - l.end
