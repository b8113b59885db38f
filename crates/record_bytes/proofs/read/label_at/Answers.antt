-- The label's bytes stand behind its length.
use Prim.Native.Nat.{◌+◌, ◌*◌}
use mathlib.Core.Path.{◌≡◌, refl, ◌∙◌, sym}
use native.Mathlib.Omega.{arith}
use Rattle.record_bytes.specs.Joined.{values}
use Rattle.record_bytes.specs.Form.{labels_at, label_size, byte_at, label_from}
use Rattle.record_bytes.proofs.Joined.{values_between}
use Rattle.record_bytes.proofs.read.label_at.Goals as goal

pub returns : goal.returns
unfolding label_from
returns c = let a = c.args in
    let p = labels_at + label_size * a.i in
    let e : c.copy_from_slice.new.self ≡ values 24 (λ k. byte_at a.bytes.now (p + 1 + k)) =
    c.copy_from_slice.ensures.after ∙ sym (values_between (λ k. byte_at a.bytes.now (p + 1 + k)) 0 24 (p + 1) (p + 25) a.bytes.now (omega arith) (omega arith) (λ i. refl)) in
    λ i. record { bytes = e i; length = byte_at a.bytes.now p }
