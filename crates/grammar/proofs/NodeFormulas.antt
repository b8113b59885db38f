-- The formula of a node, over the table of nodes: its children have smaller numbers, so that it does not depend on the bound that
-- its definition takes. By the node's kind, what it is.
use Prim.Native.Nat.{ℕ, zero, suc, ◌≤◌, ◌<◌}
use mathlib.Core.Path.{◌≡◌, sym, ap, ap₂, ◌∙◌}
use mathlib.Core.List.{List}
use native.Mathlib.Omega.{arith}
use lib.ListN.{length}
use Rattle.rules.specs.declared.Node.{Node}
use Rattle.rules.specs.Formula.{Formula, both, neg, exists, has, pair}
use Rattle.rules.specs.Labels.{label_bytes}
use Rattle.rules.specs.Table.{Op, op_of, pairing_of, node_at, shape, formula_from, tree, formula_at}
use Rattle.rules.proofs.Formulas.{op_pair_lem}
use Rattle.grammar.specs.Naming.{node_of}
use Rattle.grammar.specs.Layout.{InRange, and, not, some, has_label, between, RightNodes}

module _ (file : List ℕ) (x : Node) (f : ℕ → Formula) where
  from-kind : (k : ℕ) → x.kind ≡ k → formula_from file x f ≡ shape file (op_of k) x.a x.b f
  from-kind k e = ap (λ (i : ℕ). shape file (op_of i) x.a x.b f) e

  from_pair : 5 ≤ x.kind → x.kind ≤ 8 → formula_from file x f ≡ pair (pairing_of x.kind) x.a x.b
  from_pair low high = ap (λ (o : Op). shape file o x.a x.b f) (op_pair_lem x.kind low high)

-- a node's formula depends only on those of earlier nodes
from_agree : (file : List ℕ) (k n : ℕ) (x : Node) (f g : ℕ → Formula) → InRange k n x → ((c : ℕ) → c < n → f c ≡ g c) → formula_from file x f ≡ formula_from file x g
from_agree file k n x f g (and e a b) h = from-kind file x f 1 e ∙ (ap₂ both (h _ a) (h _ b) ∙ sym (from-kind file x g 1 e))
from_agree file k n x f g (not e a b) h = from-kind file x f 2 e ∙ (ap neg (h _ a) ∙ sym (from-kind file x g 2 e))
from_agree file k n x f g (some e a b) h = from-kind file x f 3 e ∙ (ap (exists x.a) (h _ b) ∙ sym (from-kind file x g 3 e))
from_agree file k n x f g (has_label e a b) h = from-kind file x f 4 e ∙ sym (from-kind file x g 4 e)
from_agree file k n x f g (between low high a b) h = from_pair file x f low high ∙ sym (from_pair file x g low high)

module _ (file : List ℕ) (p k : ℕ) (xs : List Node) (agree : (i : ℕ) → i < length xs → node_at file p i ≡ node_of xs i) (right : RightNodes k xs) where
  node_is : (n : ℕ) (f : ℕ → Formula) → n < length xs → formula_from file (node_at file p n) f ≡ formula_from file (node_of xs n) f
  node_is n f h = ap (λ (x : Node). formula_from file x f) (agree n h)

  any_bound : (i j n : ℕ) → n < length xs → n < i → n < j → tree file p i n ≡ tree file p j n
  unfolding tree
  any_bound zero j n h l m = absurd (omega arith)
  any_bound (suc i) zero n h l m = absurd (omega arith)
  any_bound (suc i) (suc j) n h l m =
      node_is n _ h
      ∙ (from_agree file k n (node_of xs n) (tree file p i) (tree file p j) (right n h) (λ c q. any_bound i j c (omega arith) (omega arith) (omega arith))
      ∙ sym (node_is n _ h))

  module _ (n : ℕ) (h : n < length xs) where
    formula_of_lem : formula_at file p n ≡ formula_from file (node_of xs n) (formula_at file p)
    unfolding formula_at tree
    formula_of_lem =
        node_is n _ h
        ∙ from_agree file k n (node_of xs n) (tree file p n) (formula_at file p) (right n h) (λ c q. any_bound n (suc c) c (omega arith) q (omega arith))

    of_kind : (i : ℕ) → (node_of xs n).kind ≡ i → formula_at file p n ≡ shape file (op_of i) (node_of xs n).a (node_of xs n).b (formula_at file p)
    of_kind i e = formula_of_lem ∙ from-kind file (node_of xs n) (formula_at file p) i e

    pub of_and : (node_of xs n).kind ≡ 1 → formula_at file p n ≡ both (formula_at file p (node_of xs n).a) (formula_at file p (node_of xs n).b)
    of_and = of_kind 1

    pub of_not : (node_of xs n).kind ≡ 2 → formula_at file p n ≡ neg (formula_at file p (node_of xs n).a)
    of_not = of_kind 2

    pub of_some : (node_of xs n).kind ≡ 3 → formula_at file p n ≡ exists (node_of xs n).a (formula_at file p (node_of xs n).b)
    of_some = of_kind 3

    pub of_has : (node_of xs n).kind ≡ 4 → formula_at file p n ≡ has (node_of xs n).a (label_bytes file (node_of xs n).b)
    of_has = of_kind 4

    pub of_pair : 5 ≤ (node_of xs n).kind → (node_of xs n).kind ≤ 8 → formula_at file p n ≡ pair (pairing_of (node_of xs n).kind) (node_of xs n).a (node_of xs n).b
    of_pair low high = formula_of_lem ∙ from_pair file (node_of xs n) (formula_at file p) low high
