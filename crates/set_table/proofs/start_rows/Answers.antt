-- Each row is set.
use borrow.Author.Rules.{rules}
use Rattle.set_table.proofs.Turns.{rows_as, start_row}
use Rattle.set_table.proofs.start_rows.Goals as goal

pub returns : goal.returns
returns c = rows_as _ _ _ _ _ c.each_row.ensures (λ k a s l h. search (rules, start_row))
