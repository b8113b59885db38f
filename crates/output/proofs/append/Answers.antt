use Rattle.output.proofs.Output.{appends_copied}
use Rattle.output.proofs.append.Goals as goal

pub returns : goal.returns
returns c = search appends_copied
