-- Each test that fails says that the line at the front is bad; all of them together are the test of the definition.
use Rattle.label_book.proofs.Lines.{lines}
use Rattle.label_book.proofs.read_line.Goals as goal

pub returns-then-n-eq0 : goal.returns-then-n-eq0
returns-then-n-eq0 c = search lines

pub returns-then-n-gt-MAX_LABEL_BYTES : goal.returns-then-n-gt-MAX_LABEL_BYTES
returns-then-n-gt-MAX_LABEL_BYTES c = search lines

pub returns-then-s-n : goal.returns-then-s-n
returns-then-s-n c = search lines

pub returns-then-s-n-ne61 : goal.returns-then-s-n-ne61
returns-then-s-n-ne61 c = search lines

pub returns-then-m-eq0 : goal.returns-then-m-eq0
returns-then-m-eq0 c = search lines

pub returns-then-m-gt-MAX_TEXT_BYTES : goal.returns-then-m-gt-MAX_TEXT_BYTES
returns-then-m-gt-MAX_TEXT_BYTES c = search lines

pub returns-then-s-end : goal.returns-then-s-end
returns-then-s-end c = search lines

pub returns-then-s-end-ne10 : goal.returns-then-s-end-ne10
returns-then-s-end-ne10 c = search lines

pub returns : goal.returns
returns c = search lines
