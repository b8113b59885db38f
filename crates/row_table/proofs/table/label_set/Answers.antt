-- The label's row is the answer for a marked variable, and one bit of it for a run.
use Rattle.row_table.proofs.Atoms.{label_each, label_one}
use Rattle.row_table.proofs.table.label_set.Goals as goal

pub returns-then-x-eq-EACH : goal.returns-then-x-eq-EACH
returns-then-x-eq-EACH c j l = search label_each

pub returns-else-x-eq-EACH : goal.returns-else-x-eq-EACH
returns-else-x-eq-EACH c j l = search (label_one, c.all.ensures)
