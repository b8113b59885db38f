use Rattle.slip_form.proofs.Descent.{Down}
use Rattle.slip_form.proofs.is_chain.Given as goal

abbrev pub invariant-loop-x : goal.invariant-loop-x
invariant-loop-x l = Down l.file l.first l.top l.node l.x

abbrev pub decreases-loop-x : goal.decreases-loop-x
decreases-loop-x l = l.node
