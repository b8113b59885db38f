use Rattle.sets.proofs.Sets.{mem-minus}
use Rattle.sets.proofs.minus.Goals as goal

-- src/lib.rt:25:1
pub returns : goal.returns
returns c j = mem-minus _ _ j
