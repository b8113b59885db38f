-- On the way down the chain the rest of it, of the rest of the runs, has the truth value of the whole, of all runs (`Going`).
use Rattle.slip_search.proofs.Given.{Going}
use Rattle.slip_search.proofs.is_true_of.Given as goal

abbrev pub invariant-loop-x : goal.invariant-loop-x
invariant-loop-x l = Going l.file l.first l.heights l.frees l.table l.runs l.top l.ranks l.moment l.slip l.i l.b l.node l.x

abbrev pub decreases-loop-x : goal.decreases-loop-x
decreases-loop-x l = l.node
