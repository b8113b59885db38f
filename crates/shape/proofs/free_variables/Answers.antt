-- Before the first node each number is 0.
use mathlib.Core.Path.{refl}
use Rattle.shape.specs.Tables.{FreeMask}
use Rattle.shape.proofs.Tables.{table_none}
use Rattle.shape.proofs.free_variables.Goals as goal

pub loop-n-init : goal.loop-n-init
loop-n-init c = (refl, table_none FreeMask _ _ 64)
