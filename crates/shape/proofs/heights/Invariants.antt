-- The nodes passed have their heights, and the others 0.
use mathlib.Core.Path.{◌≡◌}
use lib.ListN.{length}
use Rattle.shape.specs.Tables.{Height, TableOf}
use Rattle.shape.proofs.heights.Given as goal

abbrev pub invariant-loop-n : goal.invariant-loop-n
invariant-loop-n l = (length l.heights ≡ 64) × TableOf Height l.file l.first l.n l.heights
