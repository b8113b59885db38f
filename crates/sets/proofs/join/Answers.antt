use Rattle.sets.proofs.Sets.{mem-join}
use Rattle.sets.proofs.join.Goals as goal

-- src/lib.rt:19:1
pub returns : goal.returns
returns c j = mem-join _ _ j
