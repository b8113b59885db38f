-- The place at hand is that of label i; each label before label n stands in the file.
use native.Mathlib.Omega.{arith}
use Rattle.rules.proofs.Labels.{place_first, place_next, place_end, label_room_lem}
use Rattle.rules.proofs.file_labels.label_place.Goals as goal

pub loop-i-init : goal.loop-i-init
loop-i-init c = place_first _

pub overflow_add-p : goal.overflow_add-p
overflow_add-p c = omega (arith, label_room_lem _ _ _ _ c.requires c.loop-i.invariant (omega arith))

pub bounds-file-p : goal.bounds-file-p
bounds-file-p c = omega (arith, label_room_lem _ _ _ _ c.requires c.loop-i.invariant (omega arith))

pub overflow_add-p-in-loop-i : goal.overflow_add-p-in-loop-i
overflow_add-p-in-loop-i c = omega (arith, label_room_lem _ _ _ _ c.requires c.loop-i.invariant (omega arith))

pub loop-i-preserved : goal.loop-i-preserved
loop-i-preserved c = search place_next

pub returns : goal.returns
returns c = search place_end
