-- The loop's invariant: the buffer is what it was, with the bytes of the first i labels stored from the first label's place on.
use mathlib.Core.Path.{◌≡◌, refl}
use native.Mathlib.Omega.{arith}
use Rattle.record_bytes.specs.Form.{labels_bytes}
use Rattle.record_bytes.proofs.Joined.{joined_none, joined_next}
use Rattle.record_bytes.proofs.Form.{label_long}
use Rattle.record_bytes.proofs.write.put_labels.Goals as goal

pub loop-i-init : goal.loop-i-init
loop-i-init c = joined_none _ _ _

pub loop-i-preserved : goal.loop-i-preserved
loop-i-preserved c = joined_next 25 _ (λ k. label_long _) _ _ _ 900 c.loop-i.i _ _ c.loop-i.invariant refl refl c.put_label.ensures

pub returns : goal.returns
unfolding labels_bytes
returns c = let e : c.loop-i.i ≡ 64 = omega arith in
    rw e at c.loop-i.invariant
