-- A length is its own number, and at most 4,096. A refusal is a byte, so that 65,536 times it fits.
use Rattle.answer_numbers.proofs.Numbered.{written_fits, written_length, refused_written}
use borrow.Author.Rules.{rules}
use Rattle.answer_numbers.proofs.written_number.Goals as goal

pub overflow_cast-result : goal.overflow_cast-result
overflow_cast-result c = search (rules, written_fits)

pub returns-in-Length : goal.returns-in-Length
returns-in-Length c = search written_length

pub returns-in-Refused : goal.returns-in-Refused
returns-in-Refused c = search refused_written
