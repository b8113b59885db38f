-- The loop's invariant: the rows passed are spread, the others are as they were, and `seen` has what the rows passed had.
use Rattle.rank_tables.proofs.Tables.{SpreadTo}
use Rattle.rank_tables.proofs.spread.Given as goal

abbrev pub invariant-loop-r : goal.invariant-loop-r
invariant-loop-r l = SpreadTo l.initial.table l.table l.seen l.r
