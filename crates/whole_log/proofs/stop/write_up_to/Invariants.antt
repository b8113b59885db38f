use Rattle.timeline.specs.AllLines.{verdict_up_to}
use Rattle.whole_log.specs.Written.{Written}
use Rattle.whole_log.proofs.stop.write_up_to.Given as goal

abbrev pub invariant-loop-k : goal.invariant-loop-k
invariant-loop-k l = Written (verdict_up_to l.n) l.k l.initial.byte-items l.byte-items
