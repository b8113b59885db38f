use Rattle.sets.proofs.Sets.{from_law}
use Rattle.sets.proofs.from.Goals as goal

-- src/lib.rt:75:1
pub returns : goal.returns
returns c j = from_law _ _ _ j _ (c.minus.ensures j) (c.below.ensures j)
