use Rattle.answer_numbers.proofs.Numbered.{full_named, default_named}
use Rattle.answer_numbers.proofs.mode_of.Goals as goal

pub returns-then-n-eq1 : goal.returns-then-n-eq1
returns-then-n-eq1 c = search full_named

pub returns : goal.returns
returns c = search default_named
