use mathlib.Core.Path.{◌≡◌}
use lib.ListN.{length}
use Rattle.instants.proofs.Column.{Copied}
use Rattle.instants.proofs.instant_list.Given as goal

abbrev pub invariant-loop-i : goal.invariant-loop-i
invariant-loop-i l = (length l.list ≡ 256) × Copied l.list l.instants l.i
