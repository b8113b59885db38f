-- Only a height of 1 goes by rows.
use mathlib.Core.Path.{sym}
use Rattle.lists.proofs.Cases.{no_both}
use Rattle.moments.proofs.search.by_rows.Goals as goal

pub returns-else-height-eq1 : goal.returns-else-height-eq1
returns-else-height-eq1 c = λ e. no_both (sym e)
