-- The loop's invariant: the rows have gained the ranks passed.
use mathlib.Core.Path.{◌≡◌}
use Prim.Native.Nat.{◌<◌}
use native.Mathlib.Omega.{arith}
use lib.ListN.{length, get_or, take}
use Rattle.std.proofs.lemmas.List.{get_or-take, length-take-le}
use Rattle.rank_tables.proofs.Tables.{gained_more}
use Rattle.rank_tables.proofs.gain_values.Goals as goal

pub gain-requires : goal.gain-requires
gain-requires c =
    let values = c.args.values.now in
    let i = c.loop-i.i in
    let long : length (take 128 values) ≡ 128 = length-take-le 128 values c.requires.0.long in
    let inside : i < 128 = omega arith in
    let same : get_or (take 128 values) i 0 ≡ get_or values i 0 = get_or-take 128 values i 0 inside in
    let low = c.requires.0.low i inside in
    let kept = c.loop-i.invariant.long in
    (omega arith, inside)

pub loop-i-preserved : goal.loop-i-preserved
loop-i-preserved c =
    let at = c.loop-i in
    let values = c.args.values.now in
    let long : length (take 128 values) ≡ 128 = length-take-le 128 values c.requires.0.long in
    let inside : at.i < 128 = omega arith in
    let e = c.gain.ensures in
    gained_more values c.args.table.now at.table _ at.i _ at.invariant (get_or-take 128 values at.i 0 inside) e.0 e.1

pub returns : goal.returns
returns c =
    let values = c.args.values.now in
    let long : length (take 128 values) ≡ 128 = length-take-le 128 values c.requires.0.long in
    let e : c.loop-i.i ≡ 128 = omega arith in
    rw e at c.loop-i.invariant
