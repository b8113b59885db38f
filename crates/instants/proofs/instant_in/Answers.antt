use borrow.Author.Rules.{rules}
use Rattle.instants.proofs.Column.{column_some, column_none}
use Rattle.instants.proofs.instant_in.Goals as goal

pub returns-in-Some : goal.returns-in-Some
returns-in-Some c = search (rules, column_some)

pub returns-in-None : goal.returns-in-None
returns-in-None c = search (rules, column_none)
