-- The line of the refusal is written.
use Rattle.watch.proofs.Session.{rule_answers}
use borrow.Author.Rules.{rules}
use Rattle.watch.proofs.answer_rule.Goals as goal

pub returns : goal.returns
returns c = search (rule_answers, rules)
