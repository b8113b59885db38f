-- The labels passed differ from the one at hand; each ends before it starts.
use mathlib.Core.Path.{◌≡◌}
use mathlib.Core.Bool.{false}
use Rattle.rules.specs.Labels.{label_start, listed, label_from}
use Rattle.rules.proofs.file_labels.is_listed.Given as goal

abbrev pub invariant-loop-m : goal.invariant-loop-m
invariant-loop-m l = (l.p ≡ label_start l.file l._m) × (listed l.file l._m (label_from l.file l.at) ≡ false)
