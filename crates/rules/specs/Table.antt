-- The table of nodes, three bytes a node, and the formula that a node stands for. The table starts at place p of the file.
use Rattle.std.specs.Prelude.{ℕ, zero, suc, ◌+◌, ◌*◌, ◌≤◌, ◌<◌, ◌≡◌, Bool, true, false, ◌&&◌, cond, List, eqb, leb, ltb, length, Result, Ok}
use Rattle.rules.specs.Limits.{last_kind, variables}
use Rattle.rules.specs.Formula.{Pairing, before, overlaps, includes, same, Formula, both, neg, exists, has, pair}
use Rattle.rules.specs.Parts.{byte, label_count, part, and_then}
use Rattle.rules.specs.Labels.{label_bytes}
use Rattle.rules.specs.declared.Node.{Node}
use Rattle.refusals.specs.declared.Refusal.{Refusal}
use Rattle.refusals.specs.declared.Refusal.TheVariants.{RuleNode}

pub data Op : Type 0 where
  op_and op_not op_some op_has op_none : Op
  op_pair : Pairing → Op

-- the paper's table of kinds: those that speak of two variables, 5 to 8
abbrev pub pairing_of : ℕ → Pairing
pairing_of k =
    cond (eqb k 5) before
    (cond (eqb k 6) overlaps
    (cond (eqb k 7) includes same))

-- and all of them
abbrev pub op_of : ℕ → Op
op_of k =
    cond (eqb k 1) op_and
    (cond (eqb k 2) op_not
    (cond (eqb k 3) op_some
    (cond (eqb k 4) op_has
    (cond (ltb 4 k && leb k last_kind) (op_pair (pairing_of k)) op_none))))

-- "nodes of three bytes: kind, a, b"
abbrev pub node_at : List ℕ → ℕ → ℕ → Node
node_at file p n =
    record { kind = byte file (p + 3 * n); a = byte file (p + 3 * n + 1); b = byte file (p + 3 * n + 2) }

-- "A child is the number of an earlier node. Variables are 0 to 3." With l labels in the file, the fields of node n:
abbrev pub in_range : ℕ → ℕ → Op → ℕ → ℕ → Bool
in_range l n op_and a b = ltb a n && ltb b n
in_range l n op_not a b = ltb a n && eqb b 0
in_range l n op_some a b = ltb a variables && ltb b n
in_range l n op_has a b = ltb a variables && ltb b l
in_range l n (op_pair p) a b = ltb a variables && ltb b variables
in_range l n op_none a b = false

abbrev pub fields_ok : ℕ → ℕ → Node → Bool
fields_ok l n x = in_range l n (op_of x.kind) x.a x.b

-- Node n, one part of three bytes. "6 a node's kind or field outside its range (b not 0 under "not" too)"
abbrev pub read_node : List ℕ → ℕ → ℕ → Result ℕ Refusal
read_node file p n = part file (p + 3 * n) 3 (fields_ok (label_count file) n (node_at file p n)) RuleNode

-- the first n nodes
unfoldable pub read_nodes : List ℕ → ℕ → ℕ → Result ℕ Refusal
read_nodes file p zero = Ok p
read_nodes file p (suc n) = and_then (read_nodes file p n) (λ _. read_node file p n)

-- node n stands in the file, with its kind and fields in range
pub record NodeOk (file : List ℕ) (p n : ℕ) : Type 0 where
  pub room : p + 3 * n + 2 < length file
  pub fields : fields_ok (label_count file) n (node_at file p n) ≡ true

-- so do all up to node n
abbrev pub Good : List ℕ → ℕ → ℕ → Type 0
Good file p n = (i : ℕ) → i ≤ n → NodeOk file p i

-- a node of kinds 4 to 8 in a file of l labels, with its fields in range
pub record AtomOk (l : ℕ) (x : Node) : Type 0 where
  pub low : 3 < x.kind
  pub high : x.kind ≤ last_kind
  pub first : x.a < variables
  pub place : x.kind ≡ 4 → x.b < l
  pub second : (x.kind ≡ 4 → ⊥) → x.b < variables

-- the formula of a node, from those of its children; "has label" carries the bytes of the file's label. A kind that the
-- table of kinds lacks does not pass `inRange`, so that its line says nothing.
abbrev pub shape : List ℕ → Op → ℕ → ℕ → (ℕ → Formula) → Formula
shape file op_and a b child = both (child a) (child b)
shape file op_not a b child = neg (child a)
shape file op_some a b child = exists a (child b)
shape file op_has a b child = has a (label_bytes file b)
shape file (op_pair p) a b child = pair p a b
shape file op_none a b child = pair same a b

abbrev pub formula_from : List ℕ → Node → (ℕ → Formula) → Formula
formula_from file x child = shape file (op_of x.kind) x.a x.b child

-- the formula of node n, descending at most k times; "children, whose numbers are always smaller", so any k above n serves
unfoldable pub tree : List ℕ → ℕ → ℕ → ℕ → Formula
tree file p zero n = pair same 0 0
tree file p (suc k) n = formula_from file (node_at file p n) (λ c. tree file p k c)

unfoldable pub formula_at : List ℕ → ℕ → ℕ → Formula
formula_at file p n = tree file p (suc n) n
