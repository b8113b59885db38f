-- A refusal leaves the bytes and the numbers. Record and tally of a line that is taken are put into them, whichever the verdict.
use Rattle.answer_numbers.proofs.Numbered.{kept-tallied}
use Rattle.answer_numbers.proofs.keep_tallied.Goals as goal

pub returns-in-Refused : goal.returns-in-Refused
returns-in-Refused c = search kept-tallied

pub returns-in-Holds : goal.returns-in-Holds
returns-in-Holds c = search kept-tallied

pub returns-in-Fails : goal.returns-in-Fails
returns-in-Fails c = search kept-tallied
