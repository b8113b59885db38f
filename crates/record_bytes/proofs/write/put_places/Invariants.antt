-- The loop's invariant: the buffer is what it was, with the first i places stored from the first place on.
use mathlib.Core.Path.{◌≡◌}
use lib.ListN.{get_or}
use Rattle.labels.specs.Label.{label_no}
use Rattle.record_bytes.specs.Joined.{values, stored}
use Rattle.record_bytes.specs.Form.{places_at}
use Rattle.record_bytes.proofs.write.put_places.Given as goal

abbrev pub invariant-loop-i : goal.invariant-loop-i
invariant-loop-i l =
    l.out ≡ stored l.initial.out places_at (values l.i (λ k. (get_or l.place-items k (label_no 0)).0))
