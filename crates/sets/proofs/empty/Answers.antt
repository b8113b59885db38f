use Rattle.sets.proofs.Sets.{mem_none}
use mathlib.Core.Path.{refl}
use Rattle.sets.proofs.empty.Goals as goal

-- src/lib.rt:31:1
pub returns : goal.returns
returns c j = mem_none _ refl refl j
