-- By the kind, the answer is the mask of the formula of the node.
use Rattle.rules.proofs.Formulas.{good_room, some_variable, first_variable, second_variable}
use Rattle.shape.proofs.Nodes.{children, free_some, frees}
use Rattle.shape.proofs.free_in_node.Goals as goal

pub node_at-x-requires : goal.node_at-x-requires
node_at-x-requires c = search good_room

pub bounds-masks-a : goal.bounds-masks-a
bounds-masks-a c = search children

pub bounds-masks-b : goal.bounds-masks-b
bounds-masks-b c = search children

pub bounds-masks-a-then-kind-eq2 : goal.bounds-masks-a-then-kind-eq2
bounds-masks-a-then-kind-eq2 c = search children

pub bounds-masks-b-then-kind-eq3 : goal.bounds-masks-b-then-kind-eq3
bounds-masks-b-then-kind-eq3 c = search children

pub digit-requires : goal.digit-requires
digit-requires c = search some_variable

pub digit-requires-then-kind-eq4 : goal.digit-requires-then-kind-eq4
digit-requires-then-kind-eq4 c = search first_variable

pub digit-requires-else-kind-eq4 : goal.digit-requires-else-kind-eq4
digit-requires-else-kind-eq4 c = search first_variable

pub digit-requires-else-kind-eq4-2 : goal.digit-requires-else-kind-eq4-2
digit-requires-else-kind-eq4-2 c = search second_variable

pub returns-then-kind-eq1 : goal.returns-then-kind-eq1
returns-then-kind-eq1 c = search frees

pub returns-then-kind-eq2 : goal.returns-then-kind-eq2
returns-then-kind-eq2 c = search frees

pub returns-then-kind-eq3 : goal.returns-then-kind-eq3
returns-then-kind-eq3 c = let x = c.node_at-x in
    free_some _ _ _ _ x.ensures c.requires.good c.args.masks.now c.requires.passed _ _ c.if-kind-eq3.true c.without.ensures c.digit.ensures

pub returns-then-kind-eq4 : goal.returns-then-kind-eq4
returns-then-kind-eq4 c = search frees

pub returns-else-kind-eq4 : goal.returns-else-kind-eq4
returns-else-kind-eq4 c = search frees
