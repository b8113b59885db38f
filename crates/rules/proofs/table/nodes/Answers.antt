-- The nodes passed are read, and the next one is at the place after them.
use borrow.Author.Rules.{rules}
use Rattle.std.proofs.lemmas.Result.{err_from_is_err_and}
use Rattle.rules.proofs.Nodes.{node_room, nodes_first, nodes_next, nodes_stop, nodes_end}
use Rattle.rules.proofs.table.nodes.Goals as goal

pub loop-i-init : goal.loop-i-init
loop-i-init c = (search rules, nodes_first _ _)

pub returns-in_err-node : goal.returns-in_err-node
returns-in_err-node c =
    let p = err_from_is_err_and c.from_residual.result c.from_residual.ensures.1 in
    rw (p.1, p.2) (nodes_stop _ _ _ _ _ c.loop-i.invariant.1 c.node.ensures _ _ c.in_err-node.was c.loop-i-test.true)

pub loop-i-preserved : goal.loop-i-preserved
loop-i-preserved c =
    (node_room _ _ _ _ _ c.node.ensures c.in_ok-node.was, nodes_next _ _ _ _ _ c.loop-i.invariant.1 c.node.ensures _ c.in_ok-node.was)

pub returns : goal.returns
returns c = search (rules, nodes_end)
