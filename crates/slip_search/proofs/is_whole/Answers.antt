-- Each run is tested; another number of them keeps the slip from being whole.
use mathlib.Core.Path.{◌≡◌, sym, subst}
use mathlib.Core.Bool.{Bool}
use Prim.Native.Nat.{ℕ}
use lib.ListN.{length, take}
use native.Mathlib.Omega.{arith}
use Rattle.std.proofs.Common.{rules}
use borrow.Author.Tests.{tests, ne_eqb}
use Rattle.std.specs.List.{list_all}
use Rattle.std.proofs.lemmas.Iterator.{YieldsList-from_slice, YieldsList-from_take}
use Rattle.std.proofs.lemmas.Iterator.Search.{all_from_yields_List}
use Rattle.lists.specs.Tells.{Tells}
use Rattle.lists.proofs.Tells.{tell_no, tell_by}
use Rattle.slip_form.specs.Slips.{Each, numbers}
use Rattle.slip_search.specs.First.{Whole}
use Rattle.slip_search.proofs.Places.{ranked?, HasRank, each_tells}
use Rattle.slip_search.proofs.is_whole.Goals as goal

pub returns-then-slip-n : goal.returns-then-slip-n
returns-then-slip-n c = let a = c.args in
    let ranked = ranked? a.ranks.now a.runs in
    let long : length a.slip.run ≡ 4 = search rules in
    let e : c.all.result ≡ list_all ranked (take a.n a.slip.run) = all_from_yields_List ranked _ _ c.all.result c.all.ensures.ran (YieldsList-from_take a.n (YieldsList-from_slice a.slip.run (cc)) c.take.ensures.count) (λ x y q k. search (rules, tests)) in
    let t : Tells c.all.result (Each (HasRank a.ranks.now a.runs) (numbers a.n a.slip.run)) = subst (λ (y : Bool). Tells y (Each (HasRank a.ranks.now a.runs) (numbers a.n a.slip.run))) (sym e) (each_tells a.ranks.now a.runs a.n a.slip.run (omega (arith, c.requires.0))) in
    let s = c.if-slip-n.true in
    tell_by
    (λ w. record { count = s; ranked = subst (λ (k : ℕ). Each (HasRank a.ranks.now a.runs) (numbers k a.slip.run)) (sym s) w })
    (λ w. subst (λ (k : ℕ). Each (HasRank a.ranks.now a.runs) (numbers k a.slip.run)) s w.ranked) t

pub returns-else-slip-n : goal.returns-else-slip-n
returns-else-slip-n c = subst (λ (y : Bool). Tells y (Whole c.args.slip c.args.n c.args.ranks.now c.args.runs)) (sym (ne_eqb _ _ c.if-slip-n.false)) (tell_no (λ w. c.if-slip-n.false w.count))
