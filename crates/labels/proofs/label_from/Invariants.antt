-- The array so far is the capitals of the first bytes, filled up with zeros.
use mathlib.Core.Path.{◌≡◌}
use lib.ListN.{take}
use Rattle.lists.specs.Lists.{pad}
use Rattle.labels.specs.Label.{capitals}
use Rattle.labels.proofs.label_from.Given as goal

abbrev pub invariant-loop-i : goal.invariant-loop-i
invariant-loop-i l = l.text ≡ pad 0 24 (take l.i (capitals l.bytes))
