-- The loop's invariant: the rows have gained the ranks passed.
use Rattle.rank_tables.specs.Tables.{Gained}
use Rattle.rank_tables.proofs.gain_values.Given as goal

abbrev pub invariant-loop-i : goal.invariant-loop-i
invariant-loop-i l = Gained l.values l.initial.table l.table l.i
