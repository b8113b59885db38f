-- A length is its own number, and at most 2,048. A refusal is a byte, so that 65,536 times it fits.
use Rattle.answer_numbers.proofs.Numbered.{length_fits, report-length, refused_report}
use borrow.Author.Rules.{rules}
use Rattle.answer_numbers.proofs.report_number.Goals as goal

pub overflow_cast-result : goal.overflow_cast-result
overflow_cast-result c = search (rules, length_fits)

pub returns-in-Length : goal.returns-in-Length
returns-in-Length c = search report-length

pub returns-in-Refused : goal.returns-in-Refused
returns-in-Refused c = search refused_report
