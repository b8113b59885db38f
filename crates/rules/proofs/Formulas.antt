-- The formula of a node: its children have smaller numbers, so that it does not depend on the bound that its definition
-- takes; by the node's kind, what it is.
use Prim.Native.Nat.{ℕ, zero, suc, ◌+◌, ◌*◌, ◌≤◌, ◌<◌}
use mathlib.Core.Path.{◌≡◌, refl, sym, subst, ap, ap₂, ◌∙◌}
use mathlib.Core.Bool.{true, false, ◌&&◌}
use mathlib.Core.List.{List}
use native.Mathlib.Omega.{arith}
use lib.Dec.{eqb, ltb}
use lib.ListN.{length}
use borrow.Author.Tests.{ltb-true, ne_eqb, lt-ltb, le-leb, lt-leb}
use Rattle.lists.proofs.Cases.{either_eq, either_lt, no_both, and_left, and_right}
use Rattle.rules.specs.Limits.{last_kind, variables}
use Rattle.rules.specs.Formula.{Formula, both, neg, exists, has, pair}
use Rattle.rules.specs.Parts.{label_count}
use Rattle.rules.specs.Labels.{label_bytes}
use Rattle.rules.specs.Table.{Op, op_and, op_not, op_some, op_has, op_none, op_pair, pairing_of, op_of, in_range, node_at, fields_ok, Good, AtomOk, shape, formula_from, tree, formula_at}
use Rattle.rules.specs.declared.Node.{Node}

two_below : (a b m n : ℕ) → (ltb a m && ltb b n) ≡ true → (a < m) × (b < n)
two_below a b m n e = (ltb-true a m (and_left (ltb a m) (ltb b n) e), ltb-true b n (and_right (ltb a m) (ltb b n) e))

-- ── the table of kinds ──
-- kinds 5 to 8 say what holds between two variables
pub op_pair_lem : (k : ℕ) → 4 < k → k ≤ last_kind → op_of k ≡ op_pair (pairing_of k)
op_pair_lem k low high =
    simp (
      ne_eqb k 1 (λ e. omega arith),
      ne_eqb k 2 (λ e. omega arith),
      ne_eqb k 3 (λ e. omega arith),
      ne_eqb k 4 (λ e. omega arith),
      lt-ltb 4 k low,
      le-leb k last_kind high,
    )

-- the table lacks all others
pub op_none_lem : (k : ℕ) → last_kind < k → op_of k ≡ op_none
op_none_lem k high =
    simp (
      ne_eqb k 1 (λ e. omega arith),
      ne_eqb k 2 (λ e. omega arith),
      ne_eqb k 3 (λ e. omega arith),
      ne_eqb k 4 (λ e. omega arith),
      lt-ltb 4 k (omega arith),
      lt-leb k last_kind high,
    )

-- ── the fields of a node in range ──
module _ (l n : ℕ) (x : Node) (h : fields_ok l n x ≡ true) where
  at_kind : (k : ℕ) → x.kind ≡ k → in_range l n (op_of k) x.a x.b ≡ true
  at_kind k e = subst (λ (i : ℕ). in_range l n (op_of i) x.a x.b ≡ true) e h

  pub and-fields : x.kind ≡ 1 → (x.a < n) × (x.b < n)
  and-fields e = two_below x.a x.b n n (at_kind 1 e)

  pub not_fields : x.kind ≡ 2 → x.a < n
  not_fields e = ltb-true x.a n (and_left (ltb x.a n) (eqb x.b 0) (at_kind 2 e))

  pub some_fields : x.kind ≡ 3 → (x.a < variables) × (x.b < n)
  some_fields e = two_below x.a x.b variables n (at_kind 3 e)

  pub has-fields : x.kind ≡ 4 → (x.a < variables) × (x.b < l)
  has-fields e = two_below x.a x.b variables l (at_kind 4 e)

  -- a node that is no connective
  pub atom_ok : (x.kind ≡ 1 → ⊥) → (x.kind ≡ 2 → ⊥) → (x.kind ≡ 3 → ⊥) → AtomOk l x
  atom_ok n1 n2 n3 =
      either_eq x.kind 0 (λ e. none op_none (ap op_of e) refl) (λ n0.
      either_eq x.kind 4 has_label (λ n4.
      either_lt last_kind x.kind (λ high. none op_none (op_none_lem x.kind high) refl) (λ high. two (omega arith) high)))
    where
      none : (o : Op) → op_of x.kind ≡ o → in_range l n o x.a x.b ≡ false → AtomOk l x
      none o e f = no_both (sym h ∙ (ap (λ (q : Op). in_range l n q x.a x.b) e ∙ f))

      has_label : x.kind ≡ 4 → AtomOk l x
      has_label e =
          let q = has-fields e in
          record { low = omega arith; high = omega arith; first = q.0; place = λ _. q.1; second = λ g. absurd (g e) }

      two : 4 < x.kind → x.kind ≤ last_kind → AtomOk l x
      two low high =
          let e = ap (λ (o : Op). in_range l n o x.a x.b) (op_pair_lem x.kind low high) in
          let q = two_below x.a x.b variables variables (sym e ∙ h) in
          record { low = omega arith; high = high; first = q.0; place = λ g. absurd (omega arith); second = λ _. q.1 }

pub good-child : (file : List ℕ) (p n c : ℕ) → Good file p n → c < n → Good file p c
good-child file p n c g h i k = g i (omega arith)

pub good_room : (file : List ℕ) (p n : ℕ) → Good file p n → p + 3 * n + 2 < length file
good_room file p n g = (g n (omega arith)).room

-- ── the bound ──
module _ (file : List ℕ) (l n a b : ℕ) (f g : ℕ → Formula) (h : (c : ℕ) → c < n → f c ≡ g c) where
  shape_agree : (o : Op) → in_range l n o a b ≡ true → shape file o a b f ≡ shape file o a b g
  shape_agree op_and e = let q = two_below a b n n e in ap₂ both (h a q.0) (h b q.1)
  shape_agree op_not e = ap neg (h a (ltb-true a n (and_left (ltb a n) (eqb b 0) e)))
  shape_agree op_some e = ap (exists a) (h b (two_below a b variables n e).1)
  shape_agree op_has e = refl
  shape_agree (op_pair p) e = refl
  shape_agree op_none e = refl

pub tree_any : (file : List ℕ) (p j k n : ℕ) → Good file p n → n < j → n < k → tree file p j n ≡ tree file p k n
unfolding tree
tree_any file p zero k n o hj hk = absurd (omega arith)
tree_any file p (suc j) zero n o hj hk = absurd (omega arith)
tree_any file p (suc j) (suc k) n o hj hk =
    shape_agree file (label_count file) n (node_at file p n).a (node_at file p n).b (λ c. tree file p j c) (λ c. tree file p k c)
    (λ c h. tree_any file p j k c (good-child file p n c o h) (omega arith) (omega arith))
    (op_of (node_at file p n).kind) (o n (omega arith)).fields

-- ── a node that was looked up ──
module _ (file : List ℕ) (p n : ℕ) (x : Node) (e : x ≡ node_at file p n) (good : Good file p n) where
  pub node_fields : fields_ok (label_count file) n x ≡ true
  node_fields = ap (λ (y : Node). fields_ok (label_count file) n y) e ∙ (good n (omega arith)).fields

  pub formula_at_lem : formula_at file p n ≡ formula_from file x (formula_at file p)
  unfolding formula_at tree
  formula_at_lem =
      ap (λ (y : Node). formula_from file y (λ c. tree file p n c)) (sym e)
      ∙ shape_agree file (label_count file) n x.a x.b (λ c. tree file p n c) (formula_at file p)
      (λ c h. tree_any file p n (suc c) c (good-child file p n c good h) h (omega arith))
      (op_of x.kind) node_fields

  formula-kind : (k : ℕ) → x.kind ≡ k → formula_at file p n ≡ shape file (op_of k) x.a x.b (formula_at file p)
  formula-kind k q = formula_at_lem ∙ ap (λ (i : ℕ). shape file (op_of i) x.a x.b (formula_at file p)) q

  pub formula-and : x.kind ≡ 1 → formula_at file p n ≡ both (formula_at file p x.a) (formula_at file p x.b)
  formula-and = formula-kind 1

  pub formula_not : x.kind ≡ 2 → formula_at file p n ≡ neg (formula_at file p x.a)
  formula_not = formula-kind 2

  pub formula_some : x.kind ≡ 3 → formula_at file p n ≡ exists x.a (formula_at file p x.b)
  formula_some = formula-kind 3

  pub formula-has : x.kind ≡ 4 → formula_at file p n ≡ has x.a (label_bytes file x.b)
  formula-has = formula-kind 4

  pub formula_pair : 4 < x.kind → x.kind ≤ last_kind → formula_at file p n ≡ pair (pairing_of x.kind) x.a x.b
  formula_pair low high = formula_at_lem ∙ ap (λ (o : Op). shape file o x.a x.b (formula_at file p)) (op_pair_lem x.kind low high)

  -- children: smaller numbers than the node's, t, and good themselves
  module _ (t : ℕ) (q : n ≡ t) where
    child : (c : ℕ) → c < n → (c < t) × Good file p c
    child c h = (omega arith, good-child file p n c good h)

    pub and_left_child : x.kind ≡ 1 → (x.a < t) × Good file p x.a
    and_left_child k = child x.a (and-fields (label_count file) n x node_fields k).0

    pub and_right_child : x.kind ≡ 1 → (x.b < t) × Good file p x.b
    and_right_child k = child x.b (and-fields (label_count file) n x node_fields k).1

    pub not_child : x.kind ≡ 2 → (x.a < t) × Good file p x.a
    not_child k = child x.a (not_fields (label_count file) n x node_fields k)

    pub some_child : x.kind ≡ 3 → (x.b < t) × Good file p x.b
    some_child k = child x.b (some_fields (label_count file) n x node_fields k).1

  -- variables, and the place of a label
  pub some_variable : x.kind ≡ 3 → x.a < variables
  some_variable k = (some_fields (label_count file) n x node_fields k).0

  module _ (n1 : x.kind ≡ 1 → ⊥) (n2 : x.kind ≡ 2 → ⊥) (n3 : x.kind ≡ 3 → ⊥) where
    pub atom_fields : AtomOk (label_count file) x
    atom_fields = atom_ok (label_count file) n x node_fields n1 n2 n3

    pub first_variable : x.a < variables
    first_variable = atom_fields.first

    pub second_variable : (x.kind ≡ 4 → ⊥) → x.b < variables
    second_variable = atom_fields.second

    pub label_number : x.kind ≡ 4 → x.b < label_count file
    label_number = atom_fields.place

    -- what such a node says
    pub by_atom : {C : Type 0} → (x.kind ≡ 4 → C) → ((x.kind ≡ 4 → ⊥) → formula_at file p n ≡ pair (pairing_of x.kind) x.a x.b → C) → C
    by_atom f g = either_eq x.kind 4 f (λ n4. g n4 (formula_pair (omega (arith, atom_fields.low)) atom_fields.high))
