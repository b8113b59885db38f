-- The loop's invariant: the ranks passed have the numbers of their runs, and the others 0.
use mathlib.Core.Path.{◌≡◌}
use lib.ListN.{length}
use Rattle.rows.specs.ByRank.{ByRank}
use Rattle.rows.proofs.by_rank.Given as goal

abbrev pub invariant-loop-i : goal.invariant-loop-i
invariant-loop-i l =
    (length l.start ≡ 128) × (length l.finish ≡ 128) × (length l.number ≡ 128) × ByRank l.t l.o l.i l.start l.finish l.number
