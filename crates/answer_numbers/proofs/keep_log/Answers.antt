-- The record is packed wherever a line was looked at.
use Rattle.answer_numbers.proofs.Numbered.{kept-log}
use Rattle.answer_numbers.proofs.keep_log.Goals as goal

pub returns-in-Read : goal.returns-in-Read
returns-in-Read c = search kept-log

pub returns-then-line-eq0 : goal.returns-then-line-eq0
returns-then-line-eq0 c = search kept-log

pub returns-in-Refused : goal.returns-in-Refused
returns-in-Refused c = search kept-log
