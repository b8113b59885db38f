-- The loop's invariant: the first i places of the array are those of the form.
use Prim.Native.Nat.{◌+◌}
use Rattle.labels.specs.Label.{label_no}
use Rattle.record_bytes.specs.Form.{places_at, byte_at}
use Rattle.record_bytes.proofs.Joined.{Filled}
use Rattle.record_bytes.proofs.read.places_from.Given as goal

abbrev pub invariant-loop-i : goal.invariant-loop-i
invariant-loop-i l = Filled (λ k. label_no (byte_at l.bytes (places_at + k))) 128 l.place-items l.i
