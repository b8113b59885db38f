use borrow.Author.Rules.{rules}
use Rattle.instants.proofs.Column.{at_some, at_none}
use Rattle.instants.proofs.instant_of.Goals as goal

pub returns-in-Some : goal.returns-in-Some
returns-in-Some c = search (rules, at_some)

pub returns-in-None : goal.returns-in-None
returns-in-None c = search (rules, at_none)
