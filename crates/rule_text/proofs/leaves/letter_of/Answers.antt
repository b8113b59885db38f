-- By the level.
use Rattle.rule_text.proofs.Spelling.{letter_else}
use Rattle.rule_text.proofs.leaves.letter_of.Goals as goal

pub returns : goal.returns
returns c = search letter_else
