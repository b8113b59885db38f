-- Where each row's answer was yes, no row has a moment.
use Prim.Native.Nat.{ℕ}
use mathlib.Core.Path.{◌≡◌, refl, subst, ◌∙◌}
use mathlib.Core.Bool.{false}
use native.Mathlib.Omega.{arith}
use borrow.Author.Rules.{rules}
use borrow.Author.Tests.{tests}
use Rattle.std.specs.Bool.{⊤}
use Rattle.std.proofs.lemmas.Bool.{MatchBool-at_true}
use Rattle.std.proofs.lemmas.Iterator.{cases_from_all, YieldsList-from_range}
use Rattle.std.proofs.lemmas.List.FromFn.{length-range_with_len, get_or-range_with_len}
use Rattle.sets.specs.Sets.{mem}
use Rattle.set_table.specs.Rows.{row as row_of}
use Rattle.set_table.proofs.no_rows.Goals as goal

pub returns : goal.returns
returns c e k l =
    let runs = c.args.runs in
    let found = cases_from_all _ _ _ (λ (i : ℕ). (j : ℕ) → mem (row_of c.args.m.now i) j ≡ false) (λ _. ⊤) c.all.ensures.ran
    (YieldsList-from_range 0 runs runs refl (omega arith)) (λ x q h. search (rules, tests)) (λ x q h. tt) in
    let at = MatchBool-at_true _ _ e found k 0 (omega arith) (omega (arith, length-range_with_len 0 runs)) in
    subst (λ (i : ℕ). (j : ℕ) → mem (row_of c.args.m.now i) j ≡ false) (get_or-range_with_len 0 runs k 0 l ∙ (omega arith)) at
