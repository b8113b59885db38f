-- By the kind, the bounds of the two fields.
use native.Mathlib.Omega.{arith}
use Rattle.rules.proofs.Nodes.{fields-and, fields_not, fields_some, fields-has, fields_pair, fields_zero, fields_none}
use Rattle.rules.proofs.table.fields_ok.Goals as goal

pub returns-in-1 : goal.returns-in-1
returns-in-1 c = search fields-and

pub returns-in-2 : goal.returns-in-2
returns-in-2 c = search fields_not

pub returns-in-3 : goal.returns-in-3
returns-in-3 c = search fields_some

pub returns-in-4 : goal.returns-in-4
returns-in-4 c = search fields-has

pub returns-in-5 : goal.returns-in-5
returns-in-5 c = fields_pair _ _ c.args.x _ c.within-in-5.ensures (omega (arith, c.in-5)) (omega (arith, c.in-5))

pub returns-in_default : goal.returns-in_default
returns-in_default c = fields_zero _ _ c.args.x (omega arith)

pub returns-in_default-2 : goal.returns-in_default-2
returns-in_default-2 c = fields_none _ _ c.args.x (omega arith)
