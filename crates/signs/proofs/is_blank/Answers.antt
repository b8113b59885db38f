-- The comparisons decide.
use Rattle.signs.proofs.Bytes.{blank_space, blank_else}
use Rattle.signs.proofs.is_blank.Goals as goal

pub returns-then-b-eq32 : goal.returns-then-b-eq32
returns-then-b-eq32 c = search blank_space

pub returns-else-b-eq32 : goal.returns-else-b-eq32
returns-else-b-eq32 c = search blank_else
