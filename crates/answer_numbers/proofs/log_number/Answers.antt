-- The number of lines and of a line fit in 16 bits and a refusal in a byte, so neither runs into the other.
use Rattle.answer_numbers.proofs.Numbered.{read_whole, refused_at}
use Rattle.answer_numbers.proofs.log_number.Goals as goal

pub returns-in-Read : goal.returns-in-Read
returns-in-Read c = search read_whole

pub returns-in-Refused : goal.returns-in-Refused
returns-in-Refused c = search refused_at
