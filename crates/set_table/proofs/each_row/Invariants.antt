-- The rows passed are what the function makes of them, and the others are as they were.
use Rattle.set_table.specs.Rows.{RowByRow}
use Rattle.set_table.proofs.each_row.Given as goal

abbrev pub invariant-loop-k : goal.invariant-loop-k
invariant-loop-k g l = RowByRow (λ k old new. goal.F-post g l.f k old new) l.k l.initial.m l.m
