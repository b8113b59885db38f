-- The first bytes stand in the first places, and the other places are 0.
use Prim.Native.Nat.{ℕ}
use mathlib.Core.Path.{◌≡◌}
use native.Mathlib.Omega.{arith}
use lib.ListN.{length, take}
use lib.Seq.{length-take-le}
use Rattle.std.proofs.lemmas.List.{get_or-take}
use Rattle.slip_bytes.proofs.Places.{places_none, place_next}
use Rattle.slip_bytes.proofs.slip_from.Goals as goal

pub loop-i-init : goal.loop-i-init
loop-i-init c = places_none c.args.bytes.now

pub loop-i-preserved : goal.loop-i-preserved
loop-i-preserved c = let n : ℕ = c.min.result in
    let long : length (take n c.args.bytes.now) ≡ n = length-take-le n c.args.bytes.now (omega arith) in
    place_next c.loop-i.i c.args.bytes.now c.loop-i.run _ (omega arith) (omega arith) (get_or-take n c.args.bytes.now c.loop-i.i 0 (omega arith)) c.loop-i.invariant
