-- The record of no lines and its work area, with a tally of zeros.
use Rattle.watch.proofs.Session.{starts}
use borrow.Author.Rules.{rules}
use Rattle.watch.proofs.start.Goals as goal

pub returns : goal.returns
returns c = search (starts, rules)
