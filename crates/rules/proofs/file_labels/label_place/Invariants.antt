-- The place at hand is that of label i; each label before label n stands in the file.
use mathlib.Core.Path.{◌≡◌}
use Rattle.rules.specs.Labels.{label_start}
use Rattle.rules.proofs.file_labels.label_place.Given as goal

abbrev pub invariant-loop-i : goal.invariant-loop-i
invariant-loop-i l = l.p ≡ label_start l.file l._i
