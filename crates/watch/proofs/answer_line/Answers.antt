-- The call on the line decides; its outcome's text is written.
use borrow.Author.Rules.{rules}
use Rattle.watch.proofs.Answer.{answer_few, answers_line}
use Rattle.watch.proofs.answer_line.Goals as goal

pub put_outcome-size-requires : goal.put_outcome-size-requires
put_outcome-size-requires c = search (answer_few, rules)

pub returns : goal.returns
returns c = search (answers_line, rules)
