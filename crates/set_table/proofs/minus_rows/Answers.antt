-- Each row has lost the other matrix's.
use borrow.Author.Rules.{rules}
use Rattle.set_table.proofs.Turns.{rows_as, minus_row}
use Rattle.set_table.proofs.minus_rows.Goals as goal

pub returns : goal.returns
returns c = rows_as _ _ _ _ _ c.each_row.ensures (λ k a s l h. search (rules, minus_row))
