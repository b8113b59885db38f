use Rattle.signs.specs.Signs.{capital?}
use Rattle.signs.proofs.is_capital.Goals as goal

pub returns : goal.returns
unfolding capital?
returns c = c.is_ascii_uppercase.ensures.value
