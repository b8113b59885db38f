use Rattle.label_book.proofs.Lines.{fitting}
use Rattle.label_book.proofs.may_stand.Goals as goal

pub returns-then-b-eq10 : goal.returns-then-b-eq10
returns-then-b-eq10 c = search fitting

pub returns-then-text : goal.returns-then-text
returns-then-text c = search fitting

pub returns : goal.returns
returns c = search fitting
