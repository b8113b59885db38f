use Prim.Native.Nat.{ℕ, ◌<◌}
use mathlib.Core.Path.{◌≡◌, subst}
use lib.ListN.{length, get_or, take}
use borrow.Author.Rules.{rules}
use native.Mathlib.Omega.{arith}
use Rattle.std.proofs.lemmas.List.{length-take-le, get_or-take}
use Rattle.slip_search.proofs.Asked.{rank_more, rank_none}
use Rattle.slip_search.specs.First.{RankFor}
use Rattle.slip_search.proofs.ranks_of.Goals as goal

pub loop-rank-init : goal.loop-rank-init
loop-rank-init c = (search rules, rank_none _)

pub bounds-ranks-run : goal.bounds-ranks-run
bounds-ranks-run c = let o = c.args.o in
    let i = c.loop-rank.rank in
    let long : length o.run ≡ 128 = search rules in
    let n : length (take o.count o.run) ≡ o.count = length-take-le o.count o.run (omega (arith, c.requires.0)) in
    omega (arith, c.requires.1 i (omega arith), get_or-take o.count o.run i 0 (omega arith))

pub loop-rank-preserved : goal.loop-rank-preserved
loop-rank-preserved c = let o = c.args.o in
    let i = c.loop-rank.rank in
    let long : length o.run ≡ 128 = search rules in
    let n : length (take o.count o.run) ≡ o.count = length-take-le o.count o.run (omega (arith, c.requires.0)) in
    let is : get_or (take o.count o.run) i 0 ≡ get_or o.run i 0 = get_or-take o.count o.run i 0 (omega arith) in
    let small : get_or (take o.count o.run) i 0 < 128 = omega (arith, c.requires.1 i (omega arith)) in
    (search rules, rank_more o c.loop-rank.ranks c.loop-rank.invariant.0 i _ (omega (arith, c.requires.0)) is small c.loop-rank.invariant.1)

pub returns : goal.returns
returns c = let o = c.args.o in
    let long : length o.run ≡ 128 = search rules in
    let n : length (take o.count o.run) ≡ o.count = length-take-le o.count o.run (omega (arith, c.requires.0)) in
    let e : c.loop-rank.rank ≡ o.count = omega arith in
    subst (λ (n : ℕ). (k : ℕ) → k < 128 → RankFor o n k (get_or c.loop-rank.ranks k 0)) e c.loop-rank.invariant.1
