-- The sign is found one time more, or not.
use Prim.Native.Nat.{◌≤◌}
use mathlib.Core.List.{[], ◌∷◌}
use lib.ListN.{length}
use Rattle.signs.specs.Finding.{Marked}
use Rattle.signs.proofs.repeated.Given as goal

abbrev pub invariant-loop-n : goal.invariant-loop-n
invariant-loop-n l = Marked l.text (l.c ∷ []) l.at l.n l.p × (l.p ≤ length l.text)
