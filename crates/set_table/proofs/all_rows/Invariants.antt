-- The set has what the rows passed have together.
use Rattle.set_table.proofs.Turns.{Together}
use Rattle.set_table.proofs.all_rows.Given as goal

abbrev pub invariant-loop-k : goal.invariant-loop-k
invariant-loop-k l = Together l.m l.s l.k
