-- Three nodes behind one another.
use Rattle.atoms.proofs.Tables.{closed_or}
use Rattle.atoms.proofs.nodes.close_or.Goals as goal

pub returns : goal.returns
returns c = search closed_or
