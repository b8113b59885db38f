-- The height is read where no variable is marked, and 2 is no answer below 2.
use mathlib.Core.Path.{refl}
use Rattle.moments.proofs.search.unmarked_height.Goals as goal

pub returns-then-fixed : goal.returns-then-fixed
returns-then-fixed c = λ _. (refl, c.fixed.ensures.yes c.if-fixed.true)
