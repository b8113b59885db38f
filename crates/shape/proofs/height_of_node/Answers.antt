-- By the kind, the answer is the height of the formula of the node. A height is at most the number of its node, so that one more fits a byte.
use native.Mathlib.Omega.{arith}
use Rattle.rules.proofs.Formulas.{good_room}
use Rattle.shape.proofs.Nodes.{children, some_height_fits, heights}
use Rattle.shape.proofs.height_of_node.Goals as goal

pub node_at-x-requires : goal.node_at-x-requires
node_at-x-requires c = search good_room

pub bounds-heights-a : goal.bounds-heights-a
bounds-heights-a c = search children

pub bounds-heights-b : goal.bounds-heights-b
bounds-heights-b c = search children

pub bounds-heights-a-then-kind-eq2 : goal.bounds-heights-a-then-kind-eq2
bounds-heights-a-then-kind-eq2 c = search children

pub bounds-heights-b-then-kind-eq3 : goal.bounds-heights-b-then-kind-eq3
bounds-heights-b-then-kind-eq3 c = search children

pub overflow_add-result : goal.overflow_add-result
overflow_add-result c = let x = c.node_at-x in
    omega (arith, some_height_fits _ _ _ _ x.ensures c.requires.good c.args.heights.now c.requires.passed c.if-kind-eq3.true c.requires.n_in_bounds.1)

pub returns-then-kind-eq1 : goal.returns-then-kind-eq1
returns-then-kind-eq1 c = search heights

pub returns-then-kind-eq2 : goal.returns-then-kind-eq2
returns-then-kind-eq2 c = search heights

pub returns-then-kind-eq3 : goal.returns-then-kind-eq3
returns-then-kind-eq3 c = search heights

pub returns-else-kind-eq3 : goal.returns-else-kind-eq3
returns-else-kind-eq3 c = search heights
