-- As many zeros as the layout has bytes stand in front, and behind them what was there.
use mathlib.Core.Path.{◌≡◌, ap, ◌∙◌}
use mathlib.Core.List.{List, ◌++◌}
use Prim.Native.Nat.{ℕ}
use native.Mathlib.Omega.{arith}
use lib.ListN.{drop, replicate}
use borrow.Author.Rules.{rules}
use Rattle.std.proofs.lemmas.List.{length-take-le}
use Rattle.pairs.proofs.Clear.{clear_all}
use Rattle.pairs.proofs.clear_pairs.Goals as goal

pub returns : goal.returns
returns c =
    let work = c.args.work.now in
    let end = c.work_bytes-end.result in
    let zeros : c.fill.new.self ≡ replicate end 0 =
    c.fill.ensures.after (λ y e. search rules) ∙ ap (λ (n : ℕ). replicate n 0) (length-take-le end work (omega (arith, c.work_bytes-end.ensures))) in
    clear_all c.args.layout _ work end c.work_bytes-end.ensures (ap (λ (l : List ℕ). l ++ drop end work) zeros)
