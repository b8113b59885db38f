-- The first of the three signs that is next.
use Rattle.atoms.proofs.Leaves.{relation_before, relation_overlaps, relation_includes, relation_none}
use Rattle.atoms.proofs.atoms.relation.Goals as goal

pub returns-in-Some : goal.returns-in-Some
returns-in-Some c = relation_before _ _ _ c.in-Some.ensures

pub returns-in-Some-sign : goal.returns-in-Some-sign
returns-in-Some-sign c = relation_overlaps _ _ c.in_default.ensures _ c.in-Some-sign.ensures

pub returns-in_err-p : goal.returns-in_err-p
returns-in_err-p c = rw c.from_residual.ensures (relation_none _ _ c.in_default.ensures c.in_default-sign.ensures c.in_err-p.ensures)

pub returns : goal.returns
returns c = relation_includes _ _ c.in_default.ensures c.in_default-sign.ensures _ c.in_ok-p.ensures
