-- The first bytes stand in the first places, and the other places are 0.
use mathlib.Core.Path.{◌≡◌}
use Rattle.slip_bytes.proofs.Places.{placed}
use Rattle.slip_bytes.proofs.slip_from.Given as goal

abbrev pub invariant-loop-i : goal.invariant-loop-i
invariant-loop-i l = l.run ≡ placed l.i l.bytes
