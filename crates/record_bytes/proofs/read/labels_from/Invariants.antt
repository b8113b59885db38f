-- The loop's invariant: the first i labels of the array are those of the form.
use Rattle.record_bytes.specs.Form.{label_from}
use Rattle.record_bytes.proofs.Joined.{Filled}
use Rattle.record_bytes.proofs.read.labels_from.Given as goal

abbrev pub invariant-loop-i : goal.invariant-loop-i
invariant-loop-i l = Filled (label_from l.bytes) 64 l.label-items l.i
