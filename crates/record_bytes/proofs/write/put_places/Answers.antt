-- The loop's invariant: the buffer is what it was, with the first i places stored from the first place on.
use mathlib.Core.Path.{◌≡◌, refl}
use native.Mathlib.Omega.{arith}
use Rattle.record_bytes.specs.Form.{places_bytes}
use Rattle.record_bytes.proofs.Joined.{joined_none, value_next}
use Rattle.record_bytes.proofs.write.put_places.Goals as goal

pub loop-i-init : goal.loop-i-init
loop-i-init c = joined_none _ _ _

pub loop-i-preserved : goal.loop-i-preserved
loop-i-preserved c = value_next _ _ _ 2500 c.loop-i.i _ _ c.loop-i.invariant refl refl

pub returns : goal.returns
unfolding places_bytes
returns c = let e : c.loop-i.i ≡ 128 = omega arith in
    rw e at c.loop-i.invariant
