use Rattle.timeline.specs.AllLines.{verdict_at}
use Rattle.whole_log.specs.Written.{Written}
use Rattle.whole_log.proofs.log.write_verdicts.Given as goal

abbrev pub invariant-loop-k : goal.invariant-loop-k
invariant-loop-k l = Written (verdict_at l.x) l.k l.initial.byte-items l.byte-items
