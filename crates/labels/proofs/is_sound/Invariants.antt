-- What is left of the bytes decides: those inside the length are bytes of a label, those behind it are 0.
use Prim.Native.Nat.{◌-◌}
use mathlib.Core.Path.{◌≡◌}
use lib.ListN.{drop}
use Rattle.labels.specs.Label.{sound?, sound_from}
use Rattle.labels.proofs.is_sound.Given as goal

abbrev pub invariant-loop-i : goal.invariant-loop-i
invariant-loop-i l = sound? l.fn.x ≡ sound_from (l.n - l.i) (drop l.i l.b-items)
