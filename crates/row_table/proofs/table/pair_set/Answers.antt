-- Four cases, by which of the two variables are marked.
use Rattle.row_table.proofs.Atoms.{pair_both, pair_first, pair_second, pair_one}
use Rattle.row_table.proofs.table.pair_set.Goals as goal

pub returns-then-y-eq-EACH : goal.returns-then-y-eq-EACH
returns-then-y-eq-EACH c file runs M rows j l = search pair_both

pub returns-else-y-eq-EACH : goal.returns-else-y-eq-EACH
returns-else-y-eq-EACH c file runs M rows j l = search pair_first

pub returns-then-y-eq-EACH-2 : goal.returns-then-y-eq-EACH-2
returns-then-y-eq-EACH-2 c file runs M rows j l = search pair_second

pub returns-else-y-eq-EACH-2 : goal.returns-else-y-eq-EACH-2
returns-else-y-eq-EACH-2 c file runs M rows j l = search (pair_one, c.all.ensures)
