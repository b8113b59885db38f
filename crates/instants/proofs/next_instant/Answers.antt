use Rattle.instants.proofs.Column.{nexts}
use Rattle.instants.proofs.next_instant.Goals as goal

pub returns : goal.returns
returns c = search nexts
