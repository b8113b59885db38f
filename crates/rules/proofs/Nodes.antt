-- The nodes of a file: what each outcome of a node's tests says, and what is known of nodes that are read.
use Prim.Native.Nat.{ℕ, zero, suc, ◌+◌, ◌*◌, ◌-◌, ◌<◌, ◌≤◌}
use mathlib.Core.Path.{◌≡◌, refl, sym, subst, ap, ◌∙◌}
use mathlib.Core.Bool.{Bool, true, false, not, ◌&&◌}
use mathlib.Core.List.{List}
use native.Mathlib.Omega.{arith}
use native.Mathlib.Numerals.{add-one}
use lib.Dec.{eqb, ltb}
use lib.ListN.{length}
use borrow.Author.Tests.{eq-eqb, ne_eqb, lt-ltb, le-ltb, not-true, not-false}
use Rattle.lists.proofs.Cases.{either_eq}
use Rattle.rules.specs.Limits.{last_kind, variables}
use Rattle.rules.specs.Parts.{label_count, and_then}
use Rattle.rules.specs.Table.{Op, op_of, in_range, node_at, fields_ok, read_node, read_nodes, NodeOk}
use Rattle.rules.specs.declared.Node.{Node}
use Rattle.std.specs.Prelude.{Result, Ok, Err}
use Rattle.refusals.specs.declared.Refusal.{Refusal}
use Rattle.refusals.specs.declared.Refusal.TheVariants.{RuleEndsEarly, RuleNode}
use Rattle.rules.proofs.Parts.{ok_inj, part_short, part_bad, part_ok, part_read, then_read}
use Rattle.rules.proofs.Formulas.{op_pair_lem, op_none_lem}

-- ── two fields below their bounds ──
module _ (a m b n : ℕ) where
  pub within_first : a < m → ltb b n ≡ (ltb a m && ltb b n)
  within_first h = simp (lt-ltb a m h)

  pub within_not : m ≤ a → false ≡ (ltb a m && ltb b n)
  within_not h = simp (le-ltb a m h)

below_one : (b : ℕ) → ltb b 1 ≡ eqb b 0
below_one b = either_eq b 0 (λ e. simp (lt-ltb b 1 (omega arith), eq-eqb b 0 e)) (λ n. simp (le-ltb b 1 (omega arith), ne_eqb b 0 n))

-- ── kinds and fields ──
module _ (l i : ℕ) (x : Node) (r : Bool) where
  kind_is : (k : ℕ) → x.kind ≡ k → r ≡ in_range l i (op_of k) x.a x.b → r ≡ fields_ok l i x
  kind_is k e h = h ∙ ap (λ (n : ℕ). in_range l i (op_of n) x.a x.b) (sym e)

  pub fields-and : r ≡ (ltb x.a i && ltb x.b i) → x.kind ≡ 1 → r ≡ fields_ok l i x
  fields-and h e = kind_is 1 e h

  pub fields_not : r ≡ (ltb x.a i && ltb x.b 1) → x.kind ≡ 2 → r ≡ fields_ok l i x
  fields_not h e = kind_is 2 e (h ∙ ap (λ (t : Bool). ltb x.a i && t) (below_one x.b))

  pub fields_some : r ≡ (ltb x.a variables && ltb x.b i) → x.kind ≡ 3 → r ≡ fields_ok l i x
  fields_some h e = kind_is 3 e h

  pub fields-has : r ≡ (ltb x.a variables && ltb x.b l) → x.kind ≡ 4 → r ≡ fields_ok l i x
  fields-has h e = kind_is 4 e h

  pub fields_pair : r ≡ (ltb x.a variables && ltb x.b variables) → 4 < x.kind → x.kind ≤ last_kind → r ≡ fields_ok l i x
  fields_pair h low high = h ∙ ap (λ (o : Op). in_range l i o x.a x.b) (sym (op_pair_lem x.kind low high))

module _ (l i : ℕ) (x : Node) where
  pub fields_zero : x.kind ≡ 0 → false ≡ fields_ok l i x
  fields_zero e = kind_is l i x false 0 e refl

  pub fields_none : last_kind < x.kind → false ≡ fields_ok l i x
  fields_none h = ap (λ (o : Op). in_range l i o x.a x.b) (sym (op_none_lem x.kind h))

-- ── one node ──
module _ (file : List ℕ) (p i : ℕ) (start : p + 3 * i ≤ length file) where
  pub node_short : length file - (p + 3 * i) < 3 → Err RuleEndsEarly ≡ read_node file p i
  node_short h = part_short file (p + 3 * i) 3 _ RuleNode (omega arith)

  module _ (h : 3 ≤ length file - (p + 3 * i)) (l : ℕ) (x : Node) (r : Bool) (e : l ≡ label_count file) (f : x ≡ node_at file p i) (g : r ≡ fields_ok l i x) where
    tested : fields_ok (label_count file) i (node_at file p i) ≡ r
    tested = ap (λ (y : Node). fields_ok (label_count file) i y) (sym f) ∙ (ap (λ (n : ℕ). fields_ok n i x) (sym e) ∙ sym g)

    pub node_bad : not r ≡ true → Err RuleNode ≡ read_node file p i
    node_bad t = part_bad file (p + 3 * i) 3 _ RuleNode (omega arith) (tested ∙ not-true r t)

    pub node_ok : not r ≡ false → Ok (p + 3 * i + 3) ≡ read_node file p i
    node_ok t = part_ok file (p + 3 * i) 3 _ RuleNode (omega arith) (tested ∙ not-false r t)

pub ruleset node-cases = (node_short, node_bad, node_ok)

-- ── nodes that are read ──
pub node_read : (file : List ℕ) (p i q : ℕ) → read_node file p i ≡ Ok q → (q ≡ p + 3 * i + 3) × NodeOk file p i
node_read file p i q e =
    let v = part_read file (p + 3 * i) 3 _ RuleNode q e in
    (v.0, record { room = omega (arith, v.1.0); fields = v.1.1 })

pub nodes_read : (file : List ℕ) (p n q : ℕ) → read_nodes file p n ≡ Ok q → (q ≡ p + 3 * n) × ((i : ℕ) → i < n → NodeOk file p i)
unfolding read_nodes
nodes_read file p zero q e = let z = ok_inj p q e in (omega arith, λ i h. absurd (omega arith))
nodes_read file p (suc n) q e =
    let t = then_read (read_nodes file p n) (λ _. read_node file p n) q e in
    let w = nodes_read file p n t.0 t.1 in
    let v = node_read file p n q t.2 in
    (omega (arith, v.0), λ i h. either_eq i n (λ g. subst (λ (k : ℕ). NodeOk file p k) (sym g) v.1) (λ g. w.1 i (omega arith)))

pub node_room : (file : List ℕ) (p i q : ℕ) (r : Result ℕ Refusal) → r ≡ read_node file p i → r ≡ Ok q → p + 3 * (i + 1) ≤ length file
node_room file p i q r f g = let v = node_read file p i q (sym f ∙ g) in omega (arith, v.1.room)

pub nodes_first : (file : List ℕ) (p : ℕ) → read_nodes file p 0 ≡ Ok (p + 3 * 0)
unfolding read_nodes
nodes_first file p = let z : p ≡ p + 3 * 0 = omega arith in ap Ok z

module _ (file : List ℕ) (p i a : ℕ) (r : Result ℕ Refusal) (e : read_nodes file p i ≡ Ok a) (f : r ≡ read_node file p i) where
  pub nodes_next : (q : ℕ) → r ≡ Ok q → read_nodes file p (i + 1) ≡ Ok (p + 3 * (i + 1))
  unfolding read_nodes and_then
  nodes_next q g =
      let v = node_read file p i q (sym f ∙ g) in
      let h : q ≡ p + 3 * (i + 1) = omega (arith, v.0) in
      rw (add-one i, e) (sym f ∙ (g ∙ (ap Ok h ∙ ap (λ (k : ℕ). Ok (p + 3 * k)) (add-one i))))

  pub nodes_stop : (k : Refusal) (m : ℕ) → r ≡ Err k → i < m → Err k ≡ read_nodes file p m
  unfolding read_nodes and_then
  nodes_stop k zero g h = absurd (omega arith)
  nodes_stop k (suc m) g h =
      either_eq i m
      (λ q. sym (rw (subst (λ (j : ℕ). read_nodes file p j ≡ Ok a) q e) (subst (λ (j : ℕ). read_node file p j ≡ Err k) q (sym f ∙ g))))
      (λ q. rw (sym (nodes_stop k m g (omega arith))) refl)

pub nodes_end : (file : List ℕ) (p i n : ℕ) → read_nodes file p i ≡ Ok (p + 3 * i) → i ≤ n → n ≤ i → Ok (p + 3 * n) ≡ read_nodes file p n
nodes_end file p i n e h k = let q : i ≡ n = omega arith in sym (subst (λ (j : ℕ). read_nodes file p j ≡ Ok (p + 3 * j)) q e)
