-- The bytes of the sign stand behind the blanks, or not.
use Rattle.signs.proofs.Words.{word_other, word_found}
use Rattle.signs.proofs.keyword.Goals as goal

pub returns-then-not-starts_with : goal.returns-then-not-starts_with
returns-then-not-starts_with c = search word_other

pub returns : goal.returns
returns c = search word_found
