-- The loop's invariant: the ranks passed have the numbers of their runs, and the others 0.
use Prim.Native.Nat.{◌<◌}
use mathlib.Core.Path.{◌≡◌, refl}
use native.Mathlib.Omega.{arith}
use lib.ListN.{length, length-set}
use Rattle.rows.specs.ByRank.{ByRank}
use Rattle.rows.proofs.Ranked.{by_rank_none, by_rank_more, by_rank_fits}
use Rattle.rows.proofs.by_rank.Goals as goal

pub loop-i-init : goal.loop-i-init
loop-i-init c = (refl, refl, refl, by_rank_none _ _)

pub loop-i-preserved : goal.loop-i-preserved
loop-i-preserved c = let at = c.loop-i in
    let a = c.args in
    let ls : at.i < length at.start = omega (arith, c.requires.ranks) in
    let lf : at.i < length at.finish = omega (arith, c.requires.ranks) in
    let ln : at.i < length at.number = omega (arith, c.requires.ranks) in (
      simp length-set at.invariant.0,
      simp length-set at.invariant.1,
      simp length-set at.invariant.2,
      by_rank_more a.t a.o at.start at.finish at.number at.i _ _ _ ls lf ln refl refl refl at.invariant.3,
    )

pub returns : goal.returns
returns c = let at = c.loop-i in
    let a = c.args in
    let e : at.i ≡ a.o.count = omega arith in
    let ranked : ByRank a.t a.o a.o.count at.start at.finish at.number = rw e at at.invariant.3 in
    (ranked, by_rank_fits a.t a.o c.requires _ _ _ _ at.invariant.0 at.invariant.1 at.invariant.2 ranked)
