use native.Mathlib.Omega.{arith}
use Rattle.typed_file.proofs.Writing.{labelled_first, labelled_room, labelled_next, labelled_end}
use Rattle.typed_file.proofs.file.write_labels.Goals as goal

pub loop-place-init : goal.loop-place-init
loop-place-init c = search labelled_first

pub write_label-p-requires : goal.write_label-p-requires
write_label-p-requires c = labelled_room _ _ _ _ _ _ _ c.loop-place.invariant (omega arith)

pub loop-place-preserved : goal.loop-place-preserved
loop-place-preserved c = search labelled_next

pub returns : goal.returns
returns c = labelled_end _ _ _ _ _ _ _ c.loop-place.invariant (omega arith)
