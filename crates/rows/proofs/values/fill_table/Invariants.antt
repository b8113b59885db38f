-- The loop's invariant: the rows passed hold their values, and the others are as they were.
use mathlib.Core.Path.{◌≡◌}
use lib.ListN.{length}
use Rattle.rows.specs.Values.{Filled}
use Rattle.rows.proofs.values.fill_table.Given as goal

abbrev pub invariant-loop-r : goal.invariant-loop-r
invariant-loop-r l =
    (length l.table ≡ length l.initial.table) × Filled l.start l.finish l.number l.wanted l.labels l.initial.table l.table l.r
