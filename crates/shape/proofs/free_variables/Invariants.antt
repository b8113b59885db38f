-- The nodes passed have their masks, and the others 0.
use mathlib.Core.Path.{◌≡◌}
use lib.ListN.{length}
use Rattle.shape.specs.Tables.{FreeMask, TableOf}
use Rattle.shape.proofs.free_variables.Given as goal

abbrev pub invariant-loop-n : goal.invariant-loop-n
invariant-loop-n l = (length l.masks ≡ 64) × TableOf FreeMask l.file l.first l.n l.masks
