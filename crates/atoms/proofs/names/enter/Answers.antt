-- One store, or none.
use Rattle.atoms.proofs.Levels.{entered, full}
use Rattle.atoms.proofs.names.enter.Goals as goal

pub returns-then-d-lt64 : goal.returns-then-d-lt64
returns-then-d-lt64 c = search entered

pub returns : goal.returns
returns c = search full
