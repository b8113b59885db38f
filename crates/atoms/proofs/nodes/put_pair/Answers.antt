-- One store, or none.
use Rattle.atoms.proofs.Tables.{put_levels, put-past}
use Rattle.atoms.proofs.nodes.put_pair.Goals as goal

pub returns-then-k-lt64 : goal.returns-then-k-lt64
returns-then-k-lt64 c = search put_levels

pub returns-else-k-lt64 : goal.returns-else-k-lt64
returns-else-k-lt64 c = search put-past
