-- A rule file that has the nodes of the table says what the tree says.
use Prim.Native.Nat.{ℕ, ◌+◌, ◌-◌, ◌*◌, ◌<◌, ◌≤◌}
use mathlib.Core.Path.{◌≡◌, refl, sym, ap, ap₂, ◌∙◌}
use mathlib.Core.List.{List}
use native.Mathlib.Omega.{arith}
use lib.ListN.{length, get_or}
use Rattle.rules.specs.Formula.{Formula}
use Rattle.rules.specs.Labels.{label_bytes}
use Rattle.rules.specs.Table.{pairing_of, node_at, Good, formula_at}
use Rattle.rules.proofs.Formulas.{formula-and, formula_not, formula_some, formula-has, formula_pair}
use Rattle.atoms.specs.Tree.{Tree, either, both, neg, exists, has, pair, size}
use Rattle.atoms.specs.Emit.{Names, level, inside}
use Rattle.typed_formula.specs.Meaning.{label_text, formula_for}
use Rattle.typed_formula.proofs.Stands.{NodeIs, Stands}

-- The nodes of the file from p on are those of the table; a label's place is in the file the number of a label with its capitals.
pub record Laid (text tb file : List ℕ) (p count : ℕ) : Type 0 where
  pub kinds : (i : ℕ) → i < count → (node_at file p i).kind ≡ get_or tb (3 * i) 0
  pub firsts : (i : ℕ) → i < count → (node_at file p i).a ≡ get_or tb (3 * i + 1) 0
  pub seconds : (i : ℕ) → i < count → (get_or tb (3 * i) 0 ≡ 4 → ⊥) → (node_at file p i).b ≡ get_or tb (3 * i + 2) 0
  pub labels : (i : ℕ) → i < count → get_or tb (3 * i) 0 ≡ 4 → label_bytes file (node_at file p i).b ≡ label_text text (get_or tb (3 * i + 2) 0)

-- relations are of kinds 5 to 8
abbrev pub Known : Tree → Type 0
Known (either l r) = Known l × Known r
Known (both l r) = Known l × Known r
Known (neg t) = Known t
Known (exists n t) = Known t
Known (has n l) = Unit {0}
Known (pair q n m) = (5 ≤ q) × (q ≤ 8)

module _ (text tb file : List ℕ) (p count : ℕ) (laid : Laid text tb file p count) (good : Good file p (count - 1)) where
  good_at : (n : ℕ) → n < count → Good file p n
  good_at n h i l = good i (omega arith)

  module _ (n a b : ℕ) (h : n < count) where
    not_four : (q : ℕ) → (q ≡ 4 → ⊥) → NodeIs tb n q a b → (node_at file p n).b ≡ b
    not_four q z s = laid.seconds n h (λ e. z (sym s.at_kind ∙ e)) ∙ s.at_b

    says-and : NodeIs tb n 1 a b → formula_at file p n ≡ Formula.both (formula_at file p a) (formula_at file p b)
    says-and s =
        formula-and file p n (node_at file p n) refl (good_at n h) (laid.kinds n h ∙ s.at_kind)
        ∙ ap₂ (λ (i : ℕ) (j : ℕ). Formula.both (formula_at file p i) (formula_at file p j)) (laid.firsts n h ∙ s.at_a) (not_four 1 (λ e. omega arith) s)

    says_not : NodeIs tb n 2 a b → formula_at file p n ≡ Formula.neg (formula_at file p a)
    says_not s =
        formula_not file p n (node_at file p n) refl (good_at n h) (laid.kinds n h ∙ s.at_kind)
        ∙ ap (λ (i : ℕ). Formula.neg (formula_at file p i)) (laid.firsts n h ∙ s.at_a)

    says_some : NodeIs tb n 3 a b → formula_at file p n ≡ Formula.exists a (formula_at file p b)
    says_some s =
        formula_some file p n (node_at file p n) refl (good_at n h) (laid.kinds n h ∙ s.at_kind)
        ∙ ap₂ (λ (i : ℕ) (j : ℕ). Formula.exists i (formula_at file p j)) (laid.firsts n h ∙ s.at_a) (not_four 3 (λ e. omega arith) s)

    says-has : NodeIs tb n 4 a b → formula_at file p n ≡ Formula.has a (label_text text b)
    says-has s =
        formula-has file p n (node_at file p n) refl (good_at n h) (laid.kinds n h ∙ s.at_kind)
        ∙ ap₂ Formula.has (laid.firsts n h ∙ s.at_a) (laid.labels n h s.at_kind ∙ ap (label_text text) s.at_b)

    says_pair : (q : ℕ) → 5 ≤ q → q ≤ 8 → NodeIs tb n q a b → formula_at file p n ≡ Formula.pair (pairing_of q) a b
    says_pair q l u s =
        let k = laid.kinds n h ∙ s.at_kind in
        let ea = laid.firsts n h ∙ s.at_a in
        let eb = not_four q (λ e. omega arith) s in
        formula_pair file p n (node_at file p n) refl (good_at n h) (omega (arith, k, l)) (omega (arith, k, u))
        ∙ (λ i. Formula.pair (pairing_of (k i)) (ea i) (eb i))

  pub file-says : (t : Tree) → Known t → (ns : Names) (k : ℕ) → k + size t ≤ count → Stands tb ns t k → formula_at file p (k + size t - 1) ≡ formula_for text ns t
  unfolding Stands formula_for
  file-says (either l r) w ns k h s =
      let m = k + size l in
      let n = m + 1 + size r in
      let e : k + size (either l r) - 1 ≡ n + 2 = omega arith in
      let er : m + 1 + size r - 1 ≡ n - 1 = refl in
      ap (formula_at file p) e
      ∙ (says_not (n + 2) (n + 1) 0 (omega arith) s.5
      ∙ ap Formula.neg (says-and (n + 1) m n (omega arith) s.4
      ∙ ap₂ Formula.both
      (says_not m (m - 1) 0 (omega arith) s.1 ∙ ap Formula.neg (file-says l w.0 ns k (omega arith) s.0))
      (says_not n (n - 1) 0 (omega arith) s.3 ∙ ap Formula.neg (file-says r w.1 ns (m + 1) (omega arith) s.2))))
  file-says (both l r) w ns k h s =
      let m = k + size l in
      let n = m + size r in
      let e : k + size (both l r) - 1 ≡ n = omega arith in
      ap (formula_at file p) e
      ∙ (says-and n (m - 1) (n - 1) (omega arith) s.2
      ∙ ap₂ Formula.both (file-says l w.0 ns k (omega arith) s.0) (file-says r w.1 ns m (omega arith) s.1))
  file-says (neg t) w ns k h s =
      let n = k + size t in
      let e : k + size (neg t) - 1 ≡ n = omega arith in
      ap (formula_at file p) e ∙ (says_not n (n - 1) 0 (omega arith) s.1 ∙ ap Formula.neg (file-says t w ns k (omega arith) s.0))
  file-says (exists v t) w ns k h s =
      let n = k + size t in
      let e : k + size (exists v t) - 1 ≡ n = omega arith in
      ap (formula_at file p) e
      ∙ (says_some n (length ns) (n - 1) (omega arith) s.1 ∙ ap (Formula.exists (length ns)) (file-says t w (inside ns v) k (omega arith) s.0))
  file-says (has v l) w ns k h s =
      let e : k + 1 - 1 ≡ k = omega arith in
      ap (formula_at file p) e ∙ says-has k (level ns v) l (omega arith) s
  file-says (pair q v u) w ns k h s =
      let e : k + 1 - 1 ≡ k = omega arith in
      ap (formula_at file p) e ∙ says_pair k (level ns v) (level ns u) (omega arith) q w.0 w.1 s
