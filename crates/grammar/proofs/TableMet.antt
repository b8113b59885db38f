-- Refusals 8, 9 and 10 over the table of nodes: what the check of a rule file computes, and what the paper says of the table.
use Prim.Native.Nat.{ℕ, zero, suc, ◌-◌, ◌≤◌, ◌<◌}
use mathlib.Core.Path.{◌≡◌, ap, ◌∙◌}
use mathlib.Core.Logic.{◌↔◌}
use mathlib.Core.Bool.{true, false}
use mathlib.Core.List.{List}
use native.Mathlib.Omega.{arith}
use lib.Dec.{eqb}
use lib.ListN.{length}
use borrow.Author.Tests.{eqb-true, eqb-false}
use Rattle.lists.proofs.Cases.{either_eq, either_bool, and_left, and_right, no_both}
use Rattle.rules.specs.declared.Node.{Node}
use Rattle.rules.specs.Table.{node_at}
use Rattle.rules.specs.Formula.{no_scope, scoped, shallow}
use Rattle.rules.specs.Checks.{times_named, once_below, named_once, root_formula}
use Rattle.grammar.specs.Naming.{node_of, NamedOnce, AllNamedOnce, Uses, Bound, AllBound, FiveNested}
use Rattle.grammar.specs.Layout.{RightNodes}
use Rattle.grammar.proofs.Counted.{counted-named, named-counted}
use Rattle.grammar.proofs.Paths.{kind-within, under_root}
use Rattle.grammar.proofs.BoundMet.{all_bound_lem, one_unbound}
use Rattle.grammar.proofs.NestedMet.{Nested, nested-deep, deep-nested}

-- ── each of the first c nodes is named once ──
module _ (file : List ℕ) (p n : ℕ) where
  all_once : (c : ℕ) → once_below file p n c ≡ true → (i : ℕ) → i < c → times_named file p n i ≡ 1
  unfolding once_below
  all_once zero e i h = absurd (omega arith)
  all_once (suc c) e i h =
      either_eq i c
      (λ q. ap (times_named file p n) q ∙ eqb-true _ 1 (and_right (once_below file p n c) _ e))
      (λ q. all_once c (and_left (once_below file p n c) _ e) i (omega arith))

  one_not_once : (c : ℕ) → once_below file p n c ≡ false → (i : ℕ) × (i < c) × (times_named file p n i ≡ 1 → ⊥)
  unfolding once_below
  one_not_once zero e = no_both e
  one_not_once (suc c) e =
      either_bool (once_below file p n c)
      (λ b. let q : eqb (times_named file p n c) 1 ≡ false = simp b at e in (c, omega arith, eqb-false _ 1 q))
      (λ b. let w = one_not_once c b in (w.0, omega (arith, w.1), w.2))

module _ (file : List ℕ) (p k : ℕ) (xs : List Node) (agree : (i : ℕ) → i < length xs → node_at file p i ≡ node_of xs i) (right : RightNodes k xs) (some : 1 ≤ length xs) where
  -- ── 8: "a node not named exactly once" ──
  all_named : named_once file p (length xs) ≡ true → AllNamedOnce xs
  all_named e c h = counted-named file p k xs agree right c (all_once file p (length xs) (length xs - 1) e c (omega arith))

  one_not_named : named_once file p (length xs) ≡ false → (n : ℕ) × (suc n < length xs) × (NamedOnce xs n → ⊥)
  one_not_named e =
      let w = one_not_once file p (length xs) (length xs - 1) e in
      (w.0, omega (arith, w.1), λ o. w.2 (named-counted file p k xs agree right w.0 o))

  pub once_met : (named_once file p (length xs) ≡ true) ↔ AllNamedOnce xs
  once_met =
      (all_named, λ all. either_bool (named_once file p (length xs)) (λ e. e) (λ e. let w = one_not_named e in absurd (w.2 (all w.0 w.1))))

  pub not_once_met : (named_once file p (length xs) ≡ false) ↔ ((n : ℕ) × (suc n < length xs) × (NamedOnce xs n → ⊥))
  not_once_met =
      (one_not_named, λ w. either_bool (named_once file p (length xs)) (λ e. absurd (w.2 (all_named e w.0 w.1))) (λ e. e))

  -- ── 9: "an unbound variable" ──
  pub bound_met : AllNamedOnce xs → (scoped (root_formula file p (length xs)) no_scope ≡ true) ↔ AllBound xs
  bound_met all = (
    all_bound_lem file p k xs agree right all,
    λ b.
        either_bool (scoped (root_formula file p (length xs)) no_scope)
        (λ e. e)
        (λ e. let w = one_unbound file p k xs agree right all some e in absurd (w.3 (b w.0 w.1 w.2))),
  )

  pub unbound_met : AllNamedOnce xs → (scoped (root_formula file p (length xs)) no_scope ≡ false) ↔ ((n : ℕ) × (v : ℕ) × Uses xs n v × (Bound xs n v → ⊥))
  unbound_met all = (
    one_unbound file p k xs agree right all some,
    λ w.
        either_bool (scoped (root_formula file p (length xs)) no_scope)
        (λ e. absurd (w.3 (all_bound_lem file p k xs agree right all e w.0 w.1 w.2)))
        (λ e. e),
  )

  -- ── 10: "five "some" nodes nested" ──
  five_nested : {n : ℕ} → Nested xs 4 n → FiveNested xs
  five_nested (n1, _, some1, (n2, in1, some2, (n3, in2, some3, (n4, in3, some4, (n5, in4, some5, _))))) =
      record {
        n1 = n1;
        n2 = n2;
        n3 = n3;
        n4 = n4;
        n5 = n5;
        some1 = some1;
        some2 = some2;
        some3 = some3;
        some4 = some4;
        some5 = some5;
        in1 = in1;
        in2 = in2;
        in3 = in3;
        in4 = in4;
      }

  nested_five : AllNamedOnce xs → FiveNested xs → Nested xs 4 (length xs - 1)
  nested_five all d =
      let s = d.some1 in
      let u = under_root k xs right all d.n1 (kind-within xs d.n1 (λ z. omega arith)) in
      (d.n1, u, s, (d.n2, d.in1, d.some2, (d.n3, d.in2, d.some3, (d.n4, d.in3, d.some4, (d.n5, d.in4, d.some5, tt)))))

  pub nested_met : AllNamedOnce xs → (shallow 4 (root_formula file p (length xs)) ≡ false) ↔ FiveNested xs
  nested_met all =
      (λ e. five_nested (deep-nested file p k xs agree right 4 (length xs - 1) (omega arith) e), λ d. nested-deep file p k xs agree right 4 (length xs - 1) (nested_five all d))
