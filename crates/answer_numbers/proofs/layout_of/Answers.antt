use Rattle.answer_numbers.proofs.Numbered.{square-named, half-named}
use Rattle.answer_numbers.proofs.layout_of.Goals as goal

pub returns-then-n-eq0 : goal.returns-then-n-eq0
returns-then-n-eq0 c = search square-named

pub returns-else-n-eq0 : goal.returns-else-n-eq0
returns-else-n-eq0 c = search half-named
