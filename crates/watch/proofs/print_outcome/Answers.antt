-- The way is that of the outcome, or stop.
use Rattle.watch.proofs.Session.{follows}
use borrow.Author.Rules.{rules}
use Rattle.watch.proofs.print_outcome.Goals as goal

pub returns-then-hand_on : goal.returns-then-hand_on
returns-then-hand_on c = search (follows, rules)
