-- The labels passed are read, and the next one is at the place after them.
use mathlib.Core.Path.{refl}
use Rattle.std.proofs.lemmas.Result.{err_from_is_err_and}
use Rattle.rules.specs.Labels.{read_labels}
use Rattle.rules.proofs.Labels.{labels_place, labels_next, labels_stop, labels_end}
use Rattle.rules.proofs.file_labels.labels.Goals as goal

pub loop-i-init : goal.loop-i-init
unfolding read_labels
loop-i-init c = refl

pub label-requires : goal.label-requires
label-requires c = labels_place _ _ _ c.requires c.loop-i.invariant

pub returns-in_err-at : goal.returns-in_err-at
returns-in_err-at c =
    let p = err_from_is_err_and c.from_residual.result c.from_residual.ensures.1 in
    rw (p.1, p.2) (labels_stop _ _ _ _ c.loop-i.invariant c.label.ensures _ _ c.in_err-at.was c.loop-i-test.true)

pub loop-i-preserved : goal.loop-i-preserved
loop-i-preserved c = labels_next _ _ _ _ c.loop-i.invariant c.label.ensures _ c.in_ok-at.was

pub returns : goal.returns
returns c = search labels_end
