-- The place is that of label n, which stands in the file and has at most 24 bytes.
use native.Mathlib.Omega.{arith}
use Rattle.rules.proofs.Labels.{label_room_lem, label_short, label_is}
use Rattle.rules.proofs.file_labels.label_of.Goals as goal

pub label_place-p-requires : goal.label_place-p-requires
label_place-p-requires c = λ i h. c.requires i (omega arith)

pub overflow_add-from : goal.overflow_add-from
overflow_add-from c = omega (arith, label_room_lem _ _ _ _ c.requires c.label_place-p.ensures (omega arith))

pub bounds-file-p : goal.bounds-file-p
bounds-file-p c = omega (arith, label_room_lem _ _ _ _ c.requires c.label_place-p.ensures (omega arith))

pub overflow_add-end : goal.overflow_add-end
overflow_add-end c = omega (arith, label_room_lem _ _ _ _ c.requires c.label_place-p.ensures (omega arith))

pub slice_bounds-label_from-end : goal.slice_bounds-label_from-end
slice_bounds-label_from-end c = omega (arith, label_room_lem _ _ _ _ c.requires c.label_place-p.ensures (omega arith))

pub label_from-requires : goal.label_from-requires
label_from-requires c = label_short _ _ _ c.requires c.label_place-p.ensures

pub returns : goal.returns
returns c = label_is _ _ _ c.requires c.label_place-p.ensures _ c.label_from.ensures
