-- A file that is taken is a rule file, and the formula computed from its bytes is the one that its root stands for by the table of
-- kinds. Children are earlier nodes, so that node after node stands for its formula. A node stands for one formula only, so that a
-- rule file is taken, with just the formula that it is said to have.
use Prim.Native.Nat.{ℕ, zero, suc, ◌+◌, ◌-◌, ◌≤◌, ◌<◌}
use mathlib.Core.Path.{◌≡◌, refl, sym, subst, ap, ap₂, ◌∙◌}
use mathlib.Core.Bool.{true}
use mathlib.Core.List.{List, []}
use native.Mathlib.Omega.{arith}
use lib.ListN.{length, get_or}
use Rattle.lists.proofs.Cases.{either_eq, either_bool, no_both}
use Rattle.labels.specs.Label.{capitals}
use Rattle.rules.specs.Formula.{Pairing, before, overlaps, includes, same, Formula, both, neg, exists, has, pair}
use Rattle.rules.specs.Labels.{label_bytes}
use Rattle.rules.specs.Table.{pairing_of, node_at, formula_at}
use Rattle.rules.specs.Rules.{rule_of, formula_of}
use Rattle.rules.proofs.Parts.{ok_inj, taken_or_refused}
use Rattle.rules.specs.declared.Node.{Node}
use Rattle.rules.specs.declared.Rule.{Rule}
use Rattle.std.specs.Prelude.{Ok}
use Rattle.grammar.specs.Naming.{node_of}
use Rattle.grammar.specs.Layout.{InRange, and, not, some, has_label, between, RightNodes, UpToNode}
use Rattle.grammar.specs.Stands.{Stands, RuleFile}
use Rattle.grammar.proofs.NodeFormulas.{of_and, of_not, of_some, of_has, of_pair}
use Rattle.grammar.proofs.Paths.{kind-within}
use Rattle.grammar.proofs.OneTree.{one_tree}
use Rattle.grammar.proofs.RuleRefused.{met_refused, place, listed_to, nodes, flat, once-says, closed_says, nested-says, rule, table_taken}
use Rattle.grammar.proofs.RuleMet.{MetOrTaken, met, taken, settled}

-- ── a node of a right table stands for its formula ──
module _ (file : List ℕ) (p : ℕ) (ls : List (List ℕ)) (xs : List Node) (agree : (i : ℕ) → i < length xs → node_at file p i ≡ node_of xs i) (right : RightNodes (length ls) xs)
    (listed : (i : ℕ) → i < length ls → label_bytes file i ≡ capitals (get_or ls i [])) where
  -- the kinds 5 to 8
  pair_stands : (n : ℕ) → 5 ≤ (node_of xs n).kind → (node_of xs n).kind ≤ 8 → Stands ls xs n (pair (pairing_of (node_of xs n).kind) (node_of xs n).a (node_of xs n).b)
  unfolding Stands
  pair_stands n low high =
      either_eq (node_of xs n).kind 5
      (λ e. by_kind 5 before e refl (e, refl, refl))
      λ m5.
      either_eq (node_of xs n).kind 6
      (λ e. by_kind 6 overlaps e refl (e, refl, refl))
      λ m6.
      either_eq (node_of xs n).kind 7
      (λ e. by_kind 7 includes e refl (e, refl, refl))
      λ m7.
      let e : (node_of xs n).kind ≡ 8 = omega arith in
      by_kind 8 same e refl (e, refl, refl)
    where
      by_kind : (k : ℕ) (q : Pairing) → (node_of xs n).kind ≡ k → pairing_of k ≡ q → Stands ls xs n (pair q (node_of xs n).a (node_of xs n).b)
          → Stands ls xs n (pair (pairing_of (node_of xs n).kind) (node_of xs n).a (node_of xs n).b)
      by_kind k q e f s = subst (λ (r : Pairing). Stands ls xs n (pair r (node_of xs n).a (node_of xs n).b)) (sym (ap pairing_of e ∙ f)) s

  -- a node stands for its formula if the earlier ones do
  node_stands : (n : ℕ) → n < length xs → ((c : ℕ) → c < n → Stands ls xs c (formula_at file p c)) → Stands ls xs n (formula_at file p n)
  unfolding Stands
  node_stands n h child = go (right n h)
    where
      is : {f : Formula} → formula_at file p n ≡ f → Stands ls xs n f → Stands ls xs n (formula_at file p n)
      is e s = subst (Stands ls xs n) (sym e) s

      go : InRange (length ls) n (node_of xs n) → Stands ls xs n (formula_at file p n)
      go (and e a b) = is (of_and file p (length ls) xs agree right n h e) (e, child _ a, child _ b)
      go (not e a b) = is (of_not file p (length ls) xs agree right n h e) (e, child _ a)
      go (some e a b) = is (of_some file p (length ls) xs agree right n h e) (e, refl, child _ b)
      go (has_label e a b) = is (of_has file p (length ls) xs agree right n h e) (e, refl, sym (listed _ b))
      go (between low high a b) = is (of_pair file p (length ls) xs agree right n h low high) (pair_stands n low high)

  -- so do all, from the first on
  each_stands : (i n : ℕ) → n < i → n < length xs → Stands ls xs n (formula_at file p n)
  each_stands zero n l h = absurd (omega arith)
  each_stands (suc i) n l h = node_stands n h (λ c m. each_stands i c (omega arith) (omega arith))

  -- ── and for no other ──
  at_label : (n : ℕ) → InRange (length ls) n (node_of xs n) → (node_of xs n).kind ≡ 4 → (node_of xs n).b < length ls
  at_label n (and e a b) k = absurd (omega arith)
  at_label n (not e a b) k = absurd (omega arith)
  at_label n (some e a b) k = absurd (omega arith)
  at_label n (has_label e a b) k = b
  at_label n (between low high a b) k = absurd (omega arith)

  pair_for : (k n : ℕ) (v w : ℕ) → (node_of xs n).kind ≡ k → 5 ≤ k → k ≤ 8 → (node_of xs n).a ≡ v → (node_of xs n).b ≡ w → formula_at file p n ≡ pair (pairing_of k) v w
  pair_for k n v w e low high a b =
      of_pair file p (length ls) xs agree right n (kind-within xs n (λ z. omega arith)) (omega arith) (omega arith)
      ∙ (λ i. pair (pairing_of (e i)) (a i) (b i))

  stands_for_lem : (n : ℕ) (f : Formula) → Stands ls xs n f → formula_at file p n ≡ f
  unfolding Stands
  stands_for_lem n (both f g) (e, s, t) =
      of_and file p (length ls) xs agree right n (kind-within xs n (λ z. omega arith)) e ∙ ap₂ both (stands_for_lem (node_of xs n).a f s) (stands_for_lem (node_of xs n).b g t)
  stands_for_lem n (neg f) (e, s) = of_not file p (length ls) xs agree right n (kind-within xs n (λ z. omega arith)) e ∙ ap neg (stands_for_lem (node_of xs n).a f s)
  stands_for_lem n (exists v f) (e, a, s) =
      of_some file p (length ls) xs agree right n (kind-within xs n (λ z. omega arith)) e ∙ ap₂ exists a (stands_for_lem (node_of xs n).b f s)
  stands_for_lem n (has v l) (e, a, b) =
      let h = kind-within xs n (λ z. omega arith) in
      of_has file p (length ls) xs agree right n h e ∙ ap₂ has a (listed _ (at_label n (right n h) e) ∙ b)
  stands_for_lem n (pair before v w) (e, a, b) = pair_for 5 n v w e (omega arith) (omega arith) a b
  stands_for_lem n (pair overlaps v w) (e, a, b) = pair_for 6 n v w e (omega arith) (omega arith) a b
  stands_for_lem n (pair includes v w) (e, a, b) = pair_for 7 n v w e (omega arith) (omega arith) a b
  stands_for_lem n (pair same v w) (e, a, b) = pair_for 8 n v w e (omega arith) (omega arith) a b

-- ── a file that is taken ──
module _ {file : List ℕ} {ls : List (List ℕ)} {xs : List Node} (u : UpToNode file ls (length xs) xs []) where
  root_stands : Stands ls xs (length xs - 1) (formula_of file (rule u))
  root_stands =
      let s = u.some in
      each_stands file (place u + 1) ls xs (nodes u).agree u.nodes (listed_to u).bytes (length xs) (length xs - 1) (omega arith) (omega arith)

  root_for : (f : Formula) → Stands ls xs (length xs - 1) f → formula_of file (rule u) ≡ f
  root_for = stands_for_lem file (place u + 1) ls xs (nodes u).agree u.nodes (listed_to u).bytes (length xs - 1)

-- THE LAW: a file that is taken is a rule file, and its formula is the one that its root stands for.
pub rule_says : (file : List ℕ) (x : Rule) → rule_of file ≡ Ok x → RuleFile file (formula_of file x)
rule_says file x e = go (settled file)
  where
    go : MetOrTaken file → RuleFile file (formula_of file x)
    go (met c m) = taken_or_refused (rule_of file) x c e (met_refused file c m)
    go (taken ls xs u a b d) =
        let o = (once-says u).0 a in
        record {
          labels = ls;
          nodes = xs;
          whole = u;
          once = o;
          bound = (closed_says u o).0 b;
          shallow = λ five. no_both (sym d ∙ (nested-says u o).1 five);
          tree = one_tree (length ls) xs u.nodes o;
          root = subst (λ (y : Rule). Stands ls xs (length xs - 1) (formula_of file y)) (ok_inj (rule u) x (sym (table_taken u a b d) ∙ e)) (root_stands u);
        }

-- and the other way: a rule file is taken, with the formula that its root stands for
pub rule_file-taken : (file : List ℕ) (f : Formula) → RuleFile file f → (x : Rule) × (rule_of file ≡ Ok x) × (formula_of file x ≡ f)
rule_file-taken file f r =
    let u = r.whole in
    let o = r.once in
    let d : flat u ≡ true = either_bool (flat u) (λ e. e) (λ e. absurd (r.shallow ((nested-says u o).0 e))) in
    (rule u, table_taken u ((once-says u).1 o) ((closed_says u o).1 r.bound) d, root_for u f r.root)

-- so a file has one formula at most
pub one_formula : (file : List ℕ) (f g : Formula) → RuleFile file f → RuleFile file g → f ≡ g
one_formula file f g r s =
    let v = rule_file-taken file f r in
    let w = rule_file-taken file g s in
    sym v.2 ∙ (ap (formula_of file) (ok_inj v.0 w.0 (sym v.1 ∙ w.1)) ∙ w.2)
