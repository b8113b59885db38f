-- Two rule files that differ in nothing but the case of letters in their labels are read alike: the same rule with the same formula,
-- or the same refusal. Lengths agree, for capitals keep them. No label starts inside a label, so that the length bytes agree and each
-- label stands at the same place in both; what is read of it is its capitals. Before the labels and behind them all bytes agree.
use Prim.Native.Nat.{ℕ, zero, suc, ◌+◌, ◌*◌, ◌-◌, ◌<◌, ◌≤◌}
use mathlib.Core.Path.{◌≡◌, refl, sym, subst, ap, ap₂, ◌∙◌}
use mathlib.Core.Bool.{Bool, not, ◌&&◌, ◌||◌}
use mathlib.Core.List.{List}
use native.Mathlib.Omega.{arith}
use lib.Dec.{eqb, leb}
use lib.ListN.{length, take, drop, length-map}
use Rattle.lists.specs.Lists.{same?}
use Rattle.lists.proofs.Cases.{either_eq, either_lt}
use Rattle.labels.specs.Label.{capital, capitals, label_length?, label_form?}
use Rattle.labels.proofs.Capitals.{capitals-take, capitals-drop}
use Rattle.rules.specs.Limits.{max_labels, max_nodes, max_nested}
use Rattle.rules.specs.Formula.{Formula, both, neg, exists, has, no_scope, scoped, shallow}
use Rattle.rules.specs.Parts.{byte, part, read_mark, read_version, label_count, read_label_count, read_node_count, nothing_follows}
use Rattle.rules.specs.Labels.{label_start, label_from, label_bytes, listed, read_label, read_labels}
use Rattle.rules.specs.Table.{Op, op_and, op_not, op_some, op_has, op_none, op_pair, op_of, node_at, fields_ok, read_nodes, shape, formula_from, tree, formula_at}
use Rattle.rules.specs.Checks.{node_names, times_named, once_below, unless, whole_table}
use Rattle.rules.specs.Rules.{rule_of, formula_of}
use Rattle.rules.specs.declared.Node.{Node}
use Rattle.refusals.specs.declared.Refusal.{Refusal}
use Rattle.std.specs.Prelude.{Ok}
use Rattle.refusals.specs.declared.Refusal.TheVariants.{RuleMark, RuleVersion, RuleCount, RuleLabel, RuleNode, RuleNotATree, RuleUnbound, RuleTooDeep}
use Rattle.rules.specs.declared.Rule.{Rule}
use Rattle.rules.proofs.Parts.{then_same, count_read}
use Rattle.rules.proofs.Labels.{place_below, place_high, labels_read}
use Rattle.rules.proofs.Rules.{rule_taken}
use Rattle.letter_case.specs.Recased.{InLabel, RecasedRule}

-- ── places outside labels ──
module _ (file : List ℕ) where
  front-outside : (p : ℕ) → p < 6 → InLabel file p → ⊥
  front-outside p h i = omega (arith, place_high file i.label, i.from)

  -- the place of a length byte, or the one after the labels
  start_outside : (n : ℕ) → InLabel file (label_start file n) → ⊥
  start_outside n i =
      either_lt i.label n
      (λ h. omega (arith, place_below file i.label n h, i.to))
      (λ h. either_eq n i.label
      (λ e. omega (arith, ap (label_start file) e, i.from))
      (λ d. omega (arith, place_below file n i.label (omega arith), i.from)))

  behind-outside : (p : ℕ) → label_start file (label_count file) ≤ p → InLabel file p → ⊥
  behind-outside p h i = omega (arith, place_below file i.label (label_count file) i.listed, i.to)

module _ (file file' : List ℕ) (r : RecasedRule file file') where
  length_same : length file ≡ length file'
  length_same = sym (length-map file capital) ∙ (ap length r.capital ∙ length-map file' capital)

  front_same : (p : ℕ) → p < 6 → byte file p ≡ byte file' p
  front_same p h = r.others p (front-outside file p h)

  count_same : label_count file ≡ label_count file'
  count_same = front_same 5 (omega arith)

  behind_same : (p : ℕ) → label_start file (label_count file) ≤ p → byte file p ≡ byte file' p
  behind_same p h = r.others p (behind-outside file p h)

  part_same : (p n m : ℕ) (ok good : Bool) (fault : Refusal) → n ≡ m → ok ≡ good → part file p n ok fault ≡ part file' p m good fault
  unfolding part
  part_same p n m ok good fault e f = rw (e, f, length_same) refl

  -- ── the front ──
  mark_same : read_mark file ≡ read_mark file'
  mark_same =
      part_same 0 3 3 _ _ RuleMark refl
      (λ i. eqb (front_same 0 (omega arith) i) 82 && (eqb (front_same 1 (omega arith) i) 85 && eqb (front_same 2 (omega arith) i) 76))

  version_same : read_version file ≡ read_version file'
  version_same = part_same 3 2 2 _ _ RuleVersion refl (λ i. eqb (front_same 3 (omega arith) i + 256 * front_same 4 (omega arith) i) 1)

  label_count_same : read_label_count file ≡ read_label_count file'
  label_count_same = part_same 5 1 1 _ _ RuleCount refl (ap (λ (m : ℕ). leb m max_labels) count_same)

  -- ── labels ──
  size_same : (n : ℕ) → byte file (label_start file n) ≡ byte file' (label_start file n)
  size_same n = r.others (label_start file n) (start_outside file n)

  place_same : (n : ℕ) → label_start file n ≡ label_start file' n
  unfolding label_start
  place_same zero = refl
  place_same (suc n) =
      ap (λ (m : ℕ). label_start file n + 1 + m) (size_same n) ∙ ap (λ (p : ℕ). p + 1 + byte file' p) (place_same n)

  bytes_same : (q n : ℕ) → capitals (take n (drop q file)) ≡ capitals (take n (drop q file'))
  bytes_same q n = sym (cut file) ∙ (ap (λ (s : List ℕ). take n (drop q s)) r.capital ∙ cut file')
    where
      cut : (s : List ℕ) → take n (drop q (capitals s)) ≡ capitals (take n (drop q s))
      cut s = ap (take n) (capitals-drop q s) ∙ capitals-take n (drop q s)

  from_same : (p : ℕ) → byte file p ≡ byte file' p → label_from file p ≡ label_from file' p
  from_same p e = ap (λ (n : ℕ). capitals (take n (drop (p + 1) file))) e ∙ bytes_same (p + 1) (byte file' p)

  label_bytes_same : (n : ℕ) → label_bytes file n ≡ label_bytes file' n
  label_bytes_same n = from_same (label_start file n) (size_same n) ∙ ap (label_from file') (place_same n)

  listed_same : (n : ℕ) (l : List ℕ) → listed file n l ≡ listed file' n l
  unfolding listed
  listed_same zero l = refl
  listed_same (suc n) l = ap₂ ◌||◌ (listed_same n l) (ap (λ (k : List ℕ). same? k l) (label_bytes_same n))

  label_same : (n p : ℕ) → byte file p ≡ byte file' p → read_label file n p ≡ read_label file' n p
  unfolding read_label
  label_same n p e =
      let t : label_from file p ≡ label_from file' p = from_same p e in
      then_same _ _ _ _
      (part_same p 1 1 _ _ RuleLabel refl (ap label_length? e))
      (λ q _.
      part_same q (byte file p) (byte file' p) _ _ RuleLabel e
      (ap₂ ◌&&◌ (ap label_form? t) (ap not (ap (listed file n) t ∙ listed_same n (label_from file' p)))))

  labels_same : (n : ℕ) → read_labels file n ≡ read_labels file' n
  unfolding read_labels
  labels_same zero = refl
  labels_same (suc n) =
      then_same _ _ _ _ (labels_same n)
      (λ p e.
      let place : label_start file n ≡ p = place_same n ∙ sym (labels_read file' n p e).0 in
      label_same n p (subst (λ (q : ℕ). byte file q ≡ byte file' q) place (size_same n)))

  -- ── a table at p, behind the labels ──
  module _ (p : ℕ) (h : label_start file (label_count file) ≤ p) where
    node_same : (n : ℕ) → node_at file p n ≡ node_at file' p n
    node_same n =
        let k = behind_same (p + 3 * n) (omega arith) in
        let x = behind_same (p + 3 * n + 1) (omega arith) in
        let y = behind_same (p + 3 * n + 2) (omega arith) in
        λ i. record { kind = k i; a = x i; b = y i }

    nodes_same : (n : ℕ) → read_nodes file p n ≡ read_nodes file' p n
    unfolding read_nodes
    nodes_same zero = refl
    nodes_same (suc n) =
        then_same _ _ _ _ (nodes_same n)
        (λ _ _. part_same (p + 3 * n) 3 3 _ _ RuleNode refl (ap₂ (λ (l : ℕ) (x : Node). fields_ok l n x) count_same (node_same n)))

    shape_same : (o : Op) (a b : ℕ) (f g : ℕ → Formula) → ((c : ℕ) → f c ≡ g c) → shape file o a b f ≡ shape file' o a b g
    shape_same op_and a b f g e = ap₂ both (e a) (e b)
    shape_same op_not a b f g e = ap neg (e a)
    shape_same op_some a b f g e = ap (exists a) (e b)
    shape_same op_has a b f g e = ap (has a) (label_bytes_same b)
    shape_same (op_pair o) a b f g e = refl
    shape_same op_none a b f g e = refl

    tree_same : (k n : ℕ) → tree file p k n ≡ tree file' p k n
    unfolding tree
    tree_same zero n = refl
    tree_same (suc k) n =
        let x : Node = node_at file p n in
        shape_same (op_of x.kind) x.a x.b (λ c. tree file p k c) (λ c. tree file' p k c) (λ c. tree_same k c)
        ∙ ap (λ (y : Node). formula_from file' y (λ c. tree file' p k c)) (node_same n)

    formula_same : (n : ℕ) → formula_at file p n ≡ formula_at file' p n
    unfolding formula_at
    formula_same n = tree_same (suc n) n

    times_same : (n c : ℕ) → times_named file p n c ≡ times_named file' p n c
    unfolding times_named
    times_same zero c = refl
    times_same (suc n) c = ap₂ ◌+◌ (times_same n c) (ap (λ (x : Node). node_names x c) (node_same n))

    once_same : (n c : ℕ) → once_below file p n c ≡ once_below file' p n c
    unfolding once_below
    once_same n zero = refl
    once_same n (suc c) = ap₂ ◌&&◌ (once_same n c) (ap (λ (m : ℕ). eqb m 1) (times_same n c))

    whole_same : (n : ℕ) → whole_table file p n ≡ whole_table file' p n
    unfolding whole_table
    whole_same n = λ i.
        unless (once_same n (n - 1) i) RuleNotATree
        (unless (scoped (formula_same (n - 1) i) no_scope) RuleUnbound
        (unless (shallow max_nested (formula_same (n - 1) i)) RuleTooDeep
        (Ok (record { labels = count_same i; nodes = p; count = n }))))

    node_count_same : read_node_count file p ≡ read_node_count file' p
    node_count_same = part_same p 1 1 _ _ RuleCount refl (ap (λ (m : ℕ). leb 1 m && leb m max_nodes) (behind_same p h))

  follows_same : (e : ℕ) → nothing_follows file e ≡ nothing_follows file' e
  unfolding nothing_follows
  follows_same e = rw length_same refl

  -- ── the whole ──
  rule_same : rule_of file ≡ rule_of file'
  unfolding rule_of
  rule_same =
      then_same _ _ _ _ mark_same λ _ _.
      then_same _ _ _ _ version_same λ _ _.
      then_same _ _ _ _ label_count_same λ _ _.
      then_same _ _ _ _ (ap (read_labels file) count_same ∙ labels_same (label_count file')) λ p f.
      let end : label_start file' (label_count file') ≡ p = sym (labels_read file' (label_count file') p f).0 in
      let place : label_start file (label_count file) ≡ p = ap (label_start file) count_same ∙ (place_same (label_count file') ∙ end) in
      let count : byte file p ≡ byte file' p = behind_same p (omega arith) in
      then_same _ _ _ _ (node_count_same p (omega arith)) λ q g.
      let behind : label_start file (label_count file) ≤ q = omega (arith, (count_read file' p q g).0) in
      then_same _ _ _ _ (ap (read_nodes file q) count ∙ nodes_same q behind (byte file' p)) λ e _.
      then_same _ _ _ _ (follows_same e) λ _ _.
      ap (whole_table file q) count ∙ whole_same q behind (byte file' p)

  inside_same : (p : ℕ) → InLabel file p → InLabel file' p
  inside_same p i =
      let n : ℕ = i.label in
      let place : label_start file n ≡ label_start file' n = place_same n in
      let size : byte file (label_start file n) ≡ byte file' (label_start file' n) = size_same n ∙ ap (byte file') place in
      record {
        label = n;
        listed = omega (arith, i.listed, count_same);
        from = omega (arith, i.from);
        to = omega (arith, i.to);
      }

-- The labels of both stand at the same places: the relation goes both ways.
pub recased_back : (file file' : List ℕ) → RecasedRule file file' → RecasedRule file' file
recased_back file file' r =
    record { capital = sym r.capital; others = λ p out. sym (r.others p (λ i. out (inside_same file file' r p i))) }

-- THE LAWS: two such files hold the same rule, or are refused alike; and the rule's formula is the same.
pub rule_recased : (file file' : List ℕ) → RecasedRule file file' → rule_of file ≡ rule_of file'
rule_recased = rule_same

pub formula_recased : (file file' : List ℕ) → RecasedRule file file' → (x : Rule) → rule_of file ≡ Ok x → formula_of file x ≡ formula_of file' x
formula_recased file file' r x e =
    let t = rule_taken file x e in
    let behind : label_start file (label_count file) ≤ x.nodes = omega (arith, t.nodes_at, ap (label_start file) t.labels) in
    formula_same file file' r x.nodes behind (x.count - 1)
