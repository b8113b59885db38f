use mathlib.Core.Path.{◌∙◌}
use Rattle.signs.proofs.Bytes.{word_of}
use Rattle.signs.proofs.is_word_byte.Goals as goal

pub returns : goal.returns
returns c = c.is_ascii_alphanumeric.ensures.value ∙ word_of c.args.b
