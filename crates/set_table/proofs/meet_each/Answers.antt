-- Each row is met with the set.
use borrow.Author.Rules.{rules}
use Rattle.set_table.proofs.Turns.{rows_as, meet_row}
use Rattle.set_table.proofs.meet_each.Goals as goal

pub returns : goal.returns
returns c = rows_as _ _ _ _ _ c.each_row.ensures (λ k a s l h. search (rules, meet_row))
