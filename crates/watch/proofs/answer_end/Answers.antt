-- The line of the tally is written.
use Rattle.watch.proofs.Session.{end_answers}
use borrow.Author.Rules.{rules}
use Rattle.watch.proofs.answer_end.Goals as goal

pub returns : goal.returns
returns c = search (end_answers, rules)
