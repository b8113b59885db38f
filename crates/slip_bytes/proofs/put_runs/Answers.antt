-- The first runs stand in the first bytes, and the other bytes are as they were.
use mathlib.Core.Path.{◌≡◌, refl}
use native.Mathlib.Omega.{arith}
use borrow.Author.Rules.{rules}
use lib.ListN.{length, take}
use lib.Seq.{length-take-le}
use Rattle.std.proofs.lemmas.List.{get_or-take}
use Rattle.slip_form.specs.Slips.{run_no}
use Rattle.slip_bytes.proofs.Places.{put_next, put_all}
use Rattle.slip_bytes.proofs.put_runs.Goals as goal

pub loop-i-init : goal.loop-i-init
loop-i-init c = refl

pub loop-i-preserved : goal.loop-i-preserved
loop-i-preserved c = let n = c.args.x.count in
    let four : length c.args.x.run ≡ 4 = search rules in
    let long : length (take n c.args.x.run) ≡ n = length-take-le n c.args.x.run (omega arith) in
    put_next c.loop-i.i c.args.x.run c.args.bytes.now c.loop-i.bytes _ (omega (arith, c.requires.0, c.requires.1)) (get_or-take n c.args.x.run c.loop-i.i (run_no 0) (omega arith)) c.loop-i.invariant

pub returns : goal.returns
returns c = let n = c.args.x.count in
    let four : length c.args.x.run ≡ 4 = search rules in
    let long : length (take n c.args.x.run) ≡ n = length-take-le n c.args.x.run (omega arith) in
    put_all c.args.x c.loop-i.i c.args.bytes.now _ (omega arith) c.loop-i.invariant
