-- The loop's invariant: the buffer is what it was, with the bytes of the first i labels stored from the first label's place on.
use mathlib.Core.Path.{◌≡◌}
use lib.ListN.{get_or}
use Rattle.labels.specs.Label.{absent}
use Rattle.record_bytes.specs.Joined.{joined, stored}
use Rattle.record_bytes.specs.Form.{labels_at, packed_label}
use Rattle.record_bytes.proofs.write.put_labels.Given as goal

abbrev pub invariant-loop-i : goal.invariant-loop-i
invariant-loop-i l =
    l.out ≡ stored l.initial.out labels_at (joined l.i (λ k. packed_label (get_or l.label-items k absent)))
