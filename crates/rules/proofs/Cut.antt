-- "The longest file has 599 bytes": the first 600 bytes of a rule file decide its rule, or its refusal. Each part is read from bytes
-- that stand before its end, and the last ends at place 599 at most. So two files of at least 600 bytes that begin alike are refused
-- alike: with the same fault on the way, or with 7 after the last node.
use Prim.Native.Nat.{ℕ, zero, suc, ◌+◌, ◌*◌, ◌<◌, ◌≤◌}
use mathlib.Core.Path.{◌≡◌, refl, ap, ap₂, sym, ◌∙◌}
use mathlib.Core.Bool.{Bool, not, ◌&&◌, ◌||◌}
use mathlib.Core.List.{List}
use native.Mathlib.Omega.{arith}
use lib.Dec.{eqb, leb}
use lib.ListN.{length, take, drop, length-drop}
use lib.Seq.{take_all, length-take-le, get_or-take, get_or-drop, ext_get_or}
use borrow.Author.Tests.{le-leb, leb-true}
use Rattle.lists.specs.Lists.{same?}
use Rattle.lists.proofs.Cases.{either_lt, and_right}
use Rattle.labels.specs.Label.{capitals, max_label_bytes, label_length?, label_form?}
use Rattle.rules.specs.Limits.{max_labels, max_nodes}
use Rattle.rules.specs.Parts.{byte, part, and_then, read_mark, read_version, label_count, read_label_count, read_node_count, nothing_follows}
use Rattle.rules.specs.Labels.{label_start, label_from, label_bytes, listed, read_label, read_labels, LabelsOk}
use Rattle.rules.specs.Table.{node_at, fields_ok, read_nodes}
use Rattle.rules.specs.Rules.{rule_of}
use Rattle.rules.specs.declared.Node.{Node}
use Rattle.refusals.specs.declared.Refusal.{Refusal}
use Rattle.std.specs.Prelude.{Result}
use Rattle.rules.specs.declared.Rule.{Rule}
use Rattle.refusals.specs.declared.Refusal.TheVariants.{RuleMark, RuleVersion, RuleCount, RuleLabel, RuleNode, RuleTooLong}
use Rattle.rules.proofs.Parts.{part_read, then-stop, then_same, count_read, more-follows}
use Rattle.rules.proofs.Labels.{labels_read, place_low}
use Rattle.rules.proofs.Nodes.{nodes_read}

-- two files of at least 600 bytes, whose first 600 are the same
module _ (a b : List ℕ) (first : 600 ≤ length a) (second : 600 ≤ length b) (same : (p : ℕ) → p < 600 → byte a p ≡ byte b p) where
  part_same : (p n m : ℕ) (ok good : Bool) (fault : Refusal) → p + m ≤ 600 → n ≡ m → ok ≡ good → part a p n ok fault ≡ part b p m good fault
  unfolding part
  part_same p n m ok good fault h e f =
      let i : p + m ≤ length a = omega arith in
      let j : p + m ≤ length b = omega arith in
      rw (e, f, le-leb (p + m) (length a) i, le-leb (p + m) (length b) j) refl

  -- ── labels ──
  bytes_same : (q n : ℕ) → q + n ≤ 600 → take n (drop q a) ≡ take n (drop q b)
  bytes_same q n h =
      let i : length (take n (drop q a)) ≡ n = length-take-le n (drop q a) (simp length-drop (omega arith)) in
      let j : length (take n (drop q b)) ≡ n = length-take-le n (drop q b) (simp length-drop (omega arith)) in
      ext_get_or 0 (take n (drop q a)) (take n (drop q b)) (i ∙ sym j)
      (λ k l.
      let m : k < n = omega arith in
      let s : byte a (q + k) ≡ byte b (q + k) = same (q + k) (omega arith) in
      rw (get_or-take n (drop q a) k 0 m, get_or-take n (drop q b) k 0 m, get_or-drop q a k 0, get_or-drop q b k 0) s)

  from_same : (p : ℕ) → p < 500 → byte b p ≤ max_label_bytes → label_from a p ≡ label_from b p
  from_same p h k = ap (λ (n : ℕ). capitals (take n (drop (p + 1) a))) (same p (omega arith)) ∙ ap capitals (bytes_same (p + 1) (byte b p) (omega arith))

  place_same : (n : ℕ) → n ≤ max_labels → LabelsOk b n → label_start a n ≡ label_start b n
  unfolding label_start
  place_same zero h o = refl
  place_same (suc n) h o =
      let before : LabelsOk b n = λ i k. o i (omega arith) in
      let low = place_low b n before in
      ap (λ (p : ℕ). p + 1 + byte a p) (place_same n (omega arith) before) ∙ ap (λ (m : ℕ). label_start b n + 1 + m) (same (label_start b n) (omega arith))

  listed_same : (n : ℕ) → n ≤ max_labels → LabelsOk b n → (l : List ℕ) → listed a n l ≡ listed b n l
  unfolding listed
  listed_same zero h o l = refl
  listed_same (suc n) h o l =
      let before : LabelsOk b n = λ i k. o i (omega arith) in
      let low = place_low b n before in
      let label : label_bytes a n ≡ label_bytes b n = ap (label_from a) (place_same n (omega arith) before) ∙ from_same (label_start b n) (omega arith) (o n (omega arith)).high in
      ap₂ ◌||◌ (listed_same n (omega arith) before l) (ap (λ (k : List ℕ). same? k l) label)

  label_same : (n p : ℕ) → n ≤ max_labels → p < 500 → LabelsOk b n → read_label a n p ≡ read_label b n p
  unfolding read_label
  label_same n p h k o =
      let size : byte a p ≡ byte b p = same p (omega arith) in
      then_same _ _ _ _
      (part_same p 1 1 _ _ RuleLabel (omega arith) refl (ap label_length? size))
      (λ q e.
      let u = part_read b p 1 _ RuleLabel q e in
      let high : byte b p ≤ max_label_bytes = leb-true _ _ (and_right (leb 1 (byte b p)) (leb (byte b p) max_label_bytes) u.1.1) in
      let t : label_from a p ≡ label_from b p = from_same p k high in
      part_same q (byte a p) (byte b p) _ _ RuleLabel (omega (arith, u.0)) size
      (ap₂ ◌&&◌ (ap label_form? t) (ap not (ap (listed a n) t ∙ listed_same n h o (label_from b p)))))

  labels_same : (n : ℕ) → n ≤ max_labels → read_labels a n ≡ read_labels b n
  unfolding read_labels
  labels_same zero h = refl
  labels_same (suc n) h =
      then_same _ _ _ _ (labels_same n (omega arith))
      (λ p e.
      let w = labels_read b n p e in
      label_same n p (omega arith) (omega (arith, w.0, place_low b n w.1)) w.1)

  -- ── nodes ──
  node_same : (p n : ℕ) → p + 3 * n + 3 ≤ 600 → node_at a p n ≡ node_at b p n
  node_same p n h =
      let k = same (p + 3 * n) (omega arith) in
      let x = same (p + 3 * n + 1) (omega arith) in
      let y = same (p + 3 * n + 2) (omega arith) in
      λ i. record { kind = k i; a = x i; b = y i }

  nodes_same : (p n : ℕ) → p + 3 * n ≤ 600 → read_nodes a p n ≡ read_nodes b p n
  unfolding read_nodes
  nodes_same p zero h = refl
  nodes_same p (suc n) h =
      then_same _ _ _ _ (nodes_same p n (omega arith))
      (λ _ _.
      part_same (p + 3 * n) 3 3 _ _ RuleNode (omega arith) refl
      (ap₂ (λ (l : ℕ) (x : Node). fields_ok l n x) (same 5 (omega arith)) (node_same p n (omega arith))))

  -- ── the whole ──
  follows_same : (e : ℕ) (x y : Result Rule Refusal) → e < 600 → and_then (nothing_follows a e) (λ _. x) ≡ and_then (nothing_follows b e) (λ _. y)
  follows_same e x y h =
      sym (then-stop _ RuleTooLong _ (more-follows a e (λ k. omega arith))) ∙ then-stop _ RuleTooLong _ (more-follows b e (λ k. omega arith))

  mark_same : read_mark a ≡ read_mark b
  mark_same =
      part_same 0 3 3 _ _ RuleMark (omega arith) refl
      (λ i. eqb (same 0 (omega arith) i) 82 && (eqb (same 1 (omega arith) i) 85 && eqb (same 2 (omega arith) i) 76))

  version_same : read_version a ≡ read_version b
  version_same = part_same 3 2 2 _ _ RuleVersion (omega arith) refl (λ i. eqb (same 3 (omega arith) i + 256 * same 4 (omega arith) i) 1)

  label_count_same : read_label_count a ≡ read_label_count b
  label_count_same = part_same 5 1 1 _ _ RuleCount (omega arith) refl (ap (λ (m : ℕ). leb m max_labels) (same 5 (omega arith)))

  node_count_same : (p : ℕ) → p < 600 → read_node_count a p ≡ read_node_count b p
  node_count_same p h = part_same p 1 1 _ _ RuleCount (omega arith) refl (ap (λ (m : ℕ). leb 1 m && leb m max_nodes) (same p h))

  rule_same : rule_of a ≡ rule_of b
  unfolding rule_of
  rule_same =
      then_same _ _ _ _ mark_same λ _ _.
      then_same _ _ _ _ version_same λ _ _.
      then_same _ _ _ _ label_count_same λ c e.
      let few : label_count b ≤ max_labels = leb-true _ _ (part_read b 5 1 _ RuleCount c e).1.1 in
      then_same _ _ _ _ (ap (read_labels a) (same 5 (omega arith)) ∙ labels_same (label_count b) few) λ p f.
      let l = labels_read b (label_count b) p f in
      let low : p ≤ 406 = omega (arith, few, l.0, place_low b (label_count b) l.1) in
      let count : byte a p ≡ byte b p = same p (omega arith) in
      then_same _ _ _ _ (node_count_same p (omega arith)) λ q g.
      let n = count_read b p q g in
      let end : q + 3 * byte b p ≤ 599 = omega (arith, low, n.0, n.1.1.1) in
      then_same _ _ _ _ (ap (read_nodes a q) count ∙ nodes_same q (byte b p) (omega arith)) λ e h.
      follows_same e _ _ (omega (arith, (nodes_read b q (byte b p) e h).0))

-- THE LAW: nothing past the first 600 bytes of a rule file changes its rule or its refusal.
pub first_bytes_decide_rule : (file : List ℕ) → rule_of (take 600 file) ≡ rule_of file
first_bytes_decide_rule file =
    either_lt (length file) 600
    (λ h. ap rule_of (take_all 600 file (omega arith)))
    (λ h. rule_same (take 600 file) file (omega (arith, length-take-le 600 file h)) h (λ p k. get_or-take 600 file p 0 k))
