-- The relation is named by the signs of the four positions; a position that fits is what is left when it is cut.
use mathlib.Core.Path.{◌∙◌}
use Rattle.positions.proofs.Widths.{signs_cut}
use Rattle.relations.proofs.Relation.{compared}
use Rattle.relations.proofs.relation_between.Goals as goal

pub returns-then-all_fit : goal.returns-then-all_fit
returns-then-all_fit c = let fit = c.all_fit.ensures.yes c.if-all_fit.true in
    compared _ _ _ _ _
    (c.name_of.ensures _ _ _ _
    (c.signs_narrow.ensures
    ∙ signs_cut _ _ _ _ fit _ _ _ _
    c.cut.ensures c.cut-then-all_fit.ensures c.cut-then-all_fit-2.ensures c.cut-then-all_fit-3.ensures))

pub returns : goal.returns
returns c = compared _ _ _ _ _ (c.name_of-2.ensures _ _ _ _ c.signs_wide.ensures)
