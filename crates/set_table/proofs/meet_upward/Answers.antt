-- Each row keeps the moments from the first of the other matrix on.
use borrow.Author.Rules.{rules}
use Rattle.set_table.proofs.Turns.{rows_as, upward_row}
use Rattle.set_table.proofs.meet_upward.Goals as goal

pub returns : goal.returns
returns c = rows_as _ _ _ _ _ c.each_row.ensures (λ k a s l h. search (rules, upward_row))
