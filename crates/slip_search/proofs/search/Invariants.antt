use Rattle.slip_search.proofs.Levels.{Level}
use Rattle.slip_search.proofs.search.Given as goal

abbrev pub invariant-loop-x : goal.invariant-loop-x
invariant-loop-x l = Level l.file l.first l.heights l.frees l.table l.runs l.top l.ranks l.moment l.slip l.b l.node l.x

abbrev pub decreases-loop-x : goal.decreases-loop-x
decreases-loop-x l = l.node
