use Rattle.sets.proofs.Sets.{mem_meet}
use Rattle.sets.proofs.meet.Goals as goal

-- src/lib.rt:13:1
pub returns : goal.returns
returns c j = mem_meet _ _ j
