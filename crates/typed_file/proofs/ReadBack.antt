-- Where the parts of a file stand: reading back what was written.
use Prim.Native.Nat.{ℕ, zero, suc, ◌+◌, ◌*◌, ◌<◌, ◌≤◌}
use mathlib.Core.Path.{◌≡◌, refl, sym, ap, ap₂, ◌∙◌}
use mathlib.Core.Bool.{true, false, ◌&&◌}
use mathlib.Core.List.{List, [], ◌∷◌, ◌++◌, append_assoc}
use native.Mathlib.Omega.{arith}
use lib.Dec.{leb}
use lib.ListN.{length, get_or, take, drop, length-append, get_or-append}
use lib.Seq.{take-suc, take-length, split_at, drop_at, get_or-append-add, take-append_seam, get_or-append_seam}
use borrow.Author.Tests.{le-leb, leb-true}
use Rattle.lists.specs.Lists.{all?, same?}
use Rattle.lists.proofs.Cases.{either_eq, and_left, and_right}
use Rattle.rules.specs.Parts.{byte, label_count, read_mark, read_version, read_label_count}
use Rattle.rules.specs.Labels.{label_start, label_from, listed, read_label, read_labels, LabelOk, LabelsOk}
use Rattle.rules.specs.Labels as Labels
use Rattle.rules.specs.Table.{node_at, read_node, read_nodes, NodeOk}
use Rattle.std.specs.Prelude.{Ok}
use Rattle.refusals.specs.declared.Refusal.TheVariants.{RuleLabel, RuleNode}
use Rattle.rules.proofs.Parts.{part_ok, then_at, mark_ok, version_ok, labels_ok}
use Rattle.labels.specs.Label.{letter?, capitals, label_form?}
use Rattle.labels.proofs.Capitals.{capitals-letters}
use Rattle.text_labels.specs.Pieces.{good_labels?}
use Rattle.typed_checks.proofs.Numbers.{Distinct}
use Rattle.grammar.specs.Layout.{front, labels_part}
use Rattle.typed_file.specs.File.{label_bytes, second, node_bytes, nodes_bytes, file_from}
use Rattle.typed_file.proofs.Writing.{list_append}

-- ── parts that are read ──
pub labels_all : (file : List ℕ) (n : ℕ) → LabelsOk file n → read_labels file n ≡ Ok (label_start file n)
unfolding read_labels label_start read_label
labels_all file zero o = refl
labels_all file (suc n) o =
    let p = label_start file n in
    let k = o n (omega arith) in
    let b = byte file p in
    sym (then_at (read_labels file n) p (λ r. read_label file n r) _ (labels_all file n (λ i h. o i (omega arith)))
    (then_at _ (p + 1) _ _
    (sym (part_ok file p 1 (leb 1 b && leb b 24) RuleLabel (omega (arith, k.room)) (simp (le-leb 1 b k.low, le-leb b 24 k.high))))
    (part_ok file (p + 1) b _ RuleLabel k.room (simp (k.form, k.fresh)))))

pub nodes_all : (file : List ℕ) (p n : ℕ) → ((i : ℕ) → i < n → NodeOk file p i) → read_nodes file p n ≡ Ok (p + 3 * n)
unfolding read_nodes
nodes_all file p zero o = let e : p ≡ p + 3 * 0 = omega arith in ap Ok e
nodes_all file p (suc n) o =
    let k = o n (omega arith) in
    let e : p + 3 * n + 3 ≡ p + 3 * suc n = omega arith in
    sym (then_at (read_nodes file p n) (p + 3 * n) (λ _. read_node file p n) _ (nodes_all file p n (λ i h. o i (omega arith)))
    (sym (ap Ok e) ∙ part_ok file (p + 3 * n) 3 _ RuleNode (omega (arith, k.room)) k.fields))

good-each : (ls : List (List ℕ)) (i : ℕ) → good_labels? ls ≡ true → i < length ls → label_form? (get_or ls i []) ≡ true
good-each [] i g h = absurd (omega arith)
good-each (l ∷ ls) zero g h = and_left (label_form? l) (good_labels? ls) g
good-each (l ∷ ls) (suc i) g h = good-each ls i (and_right (label_form? l) (good_labels? ls) g) (omega arith)

pub record Form (l : List ℕ) : Type 0 where
  pub low : 1 ≤ length l
  pub high : length l ≤ 24
  pub form : label_form? l ≡ true
  pub capital : capitals l ≡ l

form_of : (l : List ℕ) → label_form? l ≡ true → Form l
unfolding label_form? letter?
form_of l e =
    let a = leb 1 (length l) in
    let b = leb (length l) 24 in
    let r = and_left (a && b) (all? letter? l) e in
    record {
      low = leb-true 1 (length l) (and_left a b r);
      high = leb-true (length l) 24 (and_right a b r);
      form = e;
      capital = capitals-letters l (and_right (a && b) (all? letter? l) e);
    }

pub good_form : (ls : List (List ℕ)) (i : ℕ) → good_labels? ls ≡ true → i < length ls → Form (get_or ls i [])
good_form ls i g h = form_of (get_or ls i []) (good-each ls i g h)

-- ── the file ──
module _ (text tb : List ℕ) (n : ℕ) (ls : List (List ℕ)) where
  abbrev file : List ℕ
  file = file_from text tb n ls

  abbrev nodes : List ℕ
  nodes = nodes_bytes ls text tb n

  abbrev firsts : ℕ → List ℕ
  firsts i = front (length ls) ++ labels_part (take i ls)

  abbrev tail : List ℕ
  tail = (n ∷ []) ++ nodes

  front_long : (i : ℕ) → length (firsts i) ≡ 6 + length (labels_part (take i ls))
  front_long i = length-append (front (length ls)) (labels_part (take i ls))

  -- label i, and what stands on both sides of it
  split_label : (i : ℕ) → i < length ls → file ≡ firsts i ++ (length (get_or ls i []) ∷ (get_or ls i [] ++ (labels_part (drop (suc i) ls) ++ tail)))
  unfolding file_from
  split_label i h =
      let l = get_or ls i [] in
      let x = labels_part (take i ls) in
      let r = labels_part (drop (suc i) ls) in
      let e : labels_part ls ≡ x ++ (label_bytes l ++ r) = ap labels_part (split_at ls i [] h) ∙ list_append (take i ls) (l ∷ drop (suc i) ls) in
      append_assoc (front (length ls) ++ labels_part ls) (n ∷ []) nodes
      ∙ (append_assoc (front (length ls)) (labels_part ls) tail
      ∙ (ap (λ (y : List ℕ). front (length ls) ++ (y ++ tail)) e
      ∙ (ap (λ (y : List ℕ). front (length ls) ++ y) (append_assoc x (label_bytes l ++ r) tail ∙ ap (λ (y : List ℕ). x ++ (length l ∷ y)) (append_assoc l r tail))
      ∙ sym (append_assoc (front (length ls)) x (length l ∷ (l ++ (r ++ tail)))))))

  label_size_lem : (i : ℕ) → i < length ls → byte file (length (firsts i)) ≡ length (get_or ls i [])
  label_size_lem i h = ap (λ (y : List ℕ). get_or y (length (firsts i)) 0) (split_label i h) ∙ get_or-append_seam (firsts i) (length (get_or ls i [])) _ 0

  label_bytes_lem : (i : ℕ) → i < length ls → label_from file (length (firsts i)) ≡ capitals (get_or ls i [])
  label_bytes_lem i h =
      let l = get_or ls i [] in
      let rest = labels_part (drop (suc i) ls) ++ tail in
      let p = length (firsts i) in
      let e : file ≡ (firsts i ++ (length l ∷ [])) ++ (l ++ rest) = split_label i h ∙ sym (append_assoc (firsts i) (length l ∷ []) (l ++ rest)) in
      let d : drop (p + 1) file ≡ l ++ rest = ap (drop (p + 1)) e ∙ drop_at (firsts i ++ (length l ∷ [])) (l ++ rest) (p + 1) (length-append (firsts i) (length l ∷ [])) in
      ap₂ (λ (k : ℕ) (y : List ℕ). capitals (take k y)) (label_size_lem i h) d ∙ ap capitals (take-append_seam l rest)

  label_room_lem : (i : ℕ) → i < length ls → length (firsts i) + 1 + length (get_or ls i []) ≤ length file
  label_room_lem i h =
      let l = get_or ls i [] in
      let rest = labels_part (drop (suc i) ls) ++ tail in
      let a = length-append (firsts i) (length l ∷ (l ++ rest)) in
      let b = length-append l rest in
      omega (arith, ap length (split_label i h))

  pub place_is : (i : ℕ) → i ≤ length ls → label_start file i ≡ length (firsts i)
  unfolding label_start
  place_is zero h = refl
  place_is (suc i) h =
      let l = get_or ls i [] in
      let g : i < length ls = omega arith in
      let p = place_is i (omega arith) in
      let s : byte file (label_start file i) ≡ length l = ap (byte file) p ∙ label_size_lem i g in
      let t : labels_part (take (suc i) ls) ≡ labels_part (take i ls) ++ (label_bytes l ++ []) = ap labels_part (take-suc ls i [] g) ∙ list_append (take i ls) (l ∷ []) in
      let u = length-append (labels_part (take i ls)) (label_bytes l ++ []) in
      let v = length-append l [] in
      omega (arith, front_long i, front_long (suc i), ap length t)

  -- the length byte of a label, and byte j behind it: as they were written
  pub label_long : (i : ℕ) → i < length ls → byte file (label_start file i) ≡ length (get_or ls i [])
  label_long i h = ap (byte file) (place_is i (omega arith)) ∙ label_size_lem i h

  pub label_byte : (i j : ℕ) → i < length ls → j < length (get_or ls i []) → byte file (label_start file i + 1 + j) ≡ get_or (get_or ls i []) j 0
  label_byte i j h k =
      let l = get_or ls i [] in
      let rest = labels_part (drop (suc i) ls) ++ tail in
      let x = firsts i ++ (length l ∷ []) in
      let e : file ≡ x ++ (l ++ rest) = split_label i h ∙ sym (append_assoc (firsts i) (length l ∷ []) (l ++ rest)) in
      let a : length x ≡ length (firsts i) + 1 = length-append (firsts i) (length l ∷ []) in
      let b : label_start file i + 1 + j ≡ length x + j = omega (arith, place_is i (omega arith)) in
      ap (byte file) b
      ∙ (ap (λ (y : List ℕ). get_or y (length x + j) 0) e
      ∙ (get_or-append-add x (l ++ rest) j 0 ∙ get_or-append l rest 0 j k))

  -- labels of the right form are in capitals, so they stand in the file as they are
  pub label_is : good_labels? ls ≡ true → (i : ℕ) → i < length ls → Labels.label_bytes file i ≡ get_or ls i []
  label_is g i h = ap (label_from file) (place_is i (omega arith)) ∙ (label_bytes_lem i h ∙ (good_form ls i g h).capital)

  fresh : good_labels? ls ≡ true → Distinct ls → (i k : ℕ) → k ≤ i → i < length ls → listed file k (get_or ls i []) ≡ false
  unfolding listed
  fresh g d i zero h m = refl
  fresh g d i (suc k) h m =
      let a : listed file k (get_or ls i []) ≡ false = fresh g d i k (omega arith) m in
      let b : same? (Labels.label_bytes file k) (get_or ls i []) ≡ false = ap (λ (y : List ℕ). same? y (get_or ls i [])) (label_is g k (omega arith)) ∙ d k i (omega arith) m in
      rw (a, b)

  pub labels_fine : good_labels? ls ≡ true → Distinct ls → LabelsOk file (length ls)
  labels_fine g d i h =
      let f = good_form ls i g h in
      let p = place_is i (omega arith) in
      let s : byte file (label_start file i) ≡ length (get_or ls i []) = ap (byte file) p ∙ label_size_lem i h in
      record {
        low = omega (arith, f.low);
        high = omega (arith, f.high);
        room = omega (arith, label_room_lem i h);
        form = ap label_form? (label_is g i h) ∙ f.form;
        fresh = ap (listed file i) (label_is g i h) ∙ fresh g d i i (omega arith) h;
      }

  -- the head
  pub head_read : length ls ≤ 16 → (read_mark file ≡ Ok 3) × (read_version file ≡ Ok 5) × (read_label_count file ≡ Ok 6)
  unfolding file_from
  head_read h = (sym (mark_ok file (omega arith) refl refl refl), sym (version_ok file (omega arith) refl), sym (labels_ok file (omega arith) h))

  pub count_labels : label_count file ≡ length ls
  unfolding file_from
  count_labels = refl

  -- the count of nodes, and the nodes
  abbrev before : List ℕ
  before = front (length ls) ++ labels_part ls

  pub place_last : label_start file (length ls) ≡ length before
  place_last = place_is (length ls) (omega arith) ∙ ap (λ (y : List (List ℕ)). length (front (length ls) ++ labels_part y)) (take-length ls)

  pub count_nodes : byte file (label_start file (length ls)) ≡ n
  unfolding file_from
  count_nodes =
      ap (byte file) place_last
      ∙ (ap (λ (y : List ℕ). get_or y (length before) 0) (append_assoc before (n ∷ []) nodes) ∙ get_or-append_seam before n nodes 0)

  nodes_long : (i : ℕ) → length (nodes_bytes ls text tb i) ≡ 3 * i
  unfolding nodes_bytes
  nodes_long zero = refl
  nodes_long (suc i) = length-append (nodes_bytes ls text tb i) (node_bytes ls text tb i) ∙ omega (arith, nodes_long i)

  pub file-long : length file ≡ length before + 1 + 3 * n
  unfolding file_from
  file-long =
      let a = length-append (before ++ (n ∷ [])) nodes in
      let b = length-append before (n ∷ []) in
      omega (arith, nodes_long n)

  -- byte j of node i
  node_byte : (m i j : ℕ) → i < m → j < 3 → get_or (nodes_bytes ls text tb m) (3 * i + j) 0 ≡ get_or (node_bytes ls text tb i) j 0
  unfolding nodes_bytes
  node_byte zero i j h k = absurd (omega arith)
  node_byte (suc m) i j h k =
      let x = nodes_bytes ls text tb m in
      let y = node_bytes ls text tb m in
      let l = nodes_long m in
      either_eq i m
      (λ e.
      let z : 3 * i + j ≡ length x + j = omega arith in
      ap (λ (v : ℕ). get_or (x ++ y) v 0) z ∙ (get_or-append-add x y j 0 ∙ ap (λ (v : ℕ). get_or (node_bytes ls text tb v) j 0) (sym e)))
      (λ e. get_or-append x y 0 (3 * i + j) (omega arith) ∙ node_byte m i j (omega arith) k)

  pub file_node : (i j : ℕ) → i < n → j < 3 → byte file (length before + 1 + (3 * i + j)) ≡ get_or (node_bytes ls text tb i) j 0
  unfolding file_from
  file_node i j h k =
      let x = before ++ (n ∷ []) in
      let l = length-append before (n ∷ []) in
      let z : length before + 1 + (3 * i + j) ≡ length x + (3 * i + j) = omega arith in
      ap (byte file) z ∙ (get_or-append-add x nodes (3 * i + j) 0 ∙ node_byte n i j h k)

  module _ (i : ℕ) (h : i < n) where
    pub node_kind : (node_at file (length before + 1) i).kind ≡ get_or tb (3 * i) 0
    node_kind = (let e : length before + 1 + 3 * i ≡ length before + 1 + (3 * i + 0) = omega arith in ap (byte file) e) ∙ file_node i 0 h (omega arith)

    pub node_first : (node_at file (length before + 1) i).a ≡ get_or tb (3 * i + 1) 0
    node_first = (let e : length before + 1 + 3 * i + 1 ≡ length before + 1 + (3 * i + 1) = omega arith in ap (byte file) e) ∙ file_node i 1 h (omega arith)

    pub node_second : (node_at file (length before + 1) i).b ≡ second ls text (get_or tb (3 * i) 0) (get_or tb (3 * i + 2) 0)
    node_second = (let e : length before + 1 + 3 * i + 2 ≡ length before + 1 + (3 * i + 2) = omega arith in ap (byte file) e) ∙ file_node i 2 h (omega arith)
