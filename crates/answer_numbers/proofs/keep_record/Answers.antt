-- A refusal leaves the bytes; the record of a line that is taken is packed into them, whichever the verdict.
use Rattle.answer_numbers.proofs.Numbered.{kept}
use Rattle.answer_numbers.proofs.keep_record.Goals as goal

pub returns-in-Refused : goal.returns-in-Refused
returns-in-Refused c = search kept

pub returns-in-Holds : goal.returns-in-Holds
returns-in-Holds c = search kept

pub returns-in-Fails : goal.returns-in-Fails
returns-in-Fails c = search kept
