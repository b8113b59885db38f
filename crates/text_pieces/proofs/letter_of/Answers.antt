use Rattle.text_pieces.proofs.Pieces.{letter_holds, letter_fails}
use Rattle.text_pieces.proofs.letter_of.Goals as goal

pub returns-then-verdict-eq1 : goal.returns-then-verdict-eq1
returns-then-verdict-eq1 c = search letter_holds

pub returns-else-verdict-eq1 : goal.returns-else-verdict-eq1
returns-else-verdict-eq1 c = search letter_fails
