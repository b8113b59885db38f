-- The labels passed are read, and the next one is at the place after them.
use mathlib.Core.Path.{◌≡◌}
use Rattle.rules.specs.Labels.{read_labels}
use Rattle.std.specs.Prelude.{Ok}
use Rattle.rules.proofs.file_labels.labels.Given as goal

abbrev pub invariant-loop-i : goal.invariant-loop-i
invariant-loop-i l = read_labels l.file l.i ≡ Ok l.at
