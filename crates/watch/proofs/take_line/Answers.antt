-- The answer to the line says what is left and whether to go on.
use Rattle.watch.proofs.Session.{onward_after}
use borrow.Author.Rules.{rules}
use Rattle.watch.proofs.take_line.Goals as goal

pub returns : goal.returns
returns c = search (onward_after, rules)
