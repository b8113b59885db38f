use mathlib.Core.Path.{◌≡◌}
use lib.ListN.{drop}
use Rattle.signs.specs.Signs.{skip}
use Rattle.signs.proofs.skip.Given as goal

-- What is passed is spaces and LFs.
abbrev pub invariant-loop-i : goal.invariant-loop-i
invariant-loop-i l = skip (drop l.at l.text) ≡ skip (drop l.i l.text)
