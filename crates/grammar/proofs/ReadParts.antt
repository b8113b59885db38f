-- Reading answers what the layout says: where a file is its front, labels and nodes one after another, reading has taken just these,
-- and stands where the rest of the file begins.
use Prim.Native.Nat.{ℕ, zero, suc, ◌+◌, ◌*◌, ◌-◌, ◌<◌, ◌≤◌}
use mathlib.Core.Path.{◌≡◌, refl, sym, subst, ap, ap₂, ◌∙◌}
use mathlib.Core.Logic.{◌≢◌}
use mathlib.Core.Bool.{Bool, true, false, ◌||◌}
use mathlib.Core.List.{List, [], ◌∷◌, ◌++◌, append_assoc}
use native.Mathlib.Omega.{arith}
use native.Mathlib.Numerals.{add-one}
use lib.ListN.{length, get_or, take, drop, length-map}
use Rattle.lists.specs.Lists.{bytes, same?, any_below}
use Rattle.lists.proofs.Cases.{either_bool}
use Rattle.lists.proofs.Lists.{append-nil, same_refl, same_eq}
use Rattle.lists.proofs.Below.{found_yes, found_at}
use Rattle.labels.specs.Label.{capital, capitals, label_form?}
use Rattle.rules.specs.Parts.{byte, label_count, read_mark, read_version, read_head}
use Rattle.rules.specs.Labels.{label_start, label_from, label_bytes, listed, read_label, read_labels}
use Rattle.rules.specs.Table.{node_at, fields_ok, read_node, read_nodes}
use Rattle.rules.specs.declared.Node.{Node}
use Rattle.std.specs.Prelude.{Ok, Err}
use Rattle.refusals.specs.declared.Refusal.TheVariants.{RuleEndsEarly, RuleLabel, RuleNode}
use Rattle.rules.proofs.Parts.{part_short, part_bad, part_ok, mark_ok, version_ok, labels_ok, head_count}
use Rattle.rules.proofs.Labels.{label_none, label_empty, label_long, label_cut, label_letter, label_twice, label_ok, labels_next, bytes_part, place_next}
use Rattle.rules.proofs.Nodes.{nodes_first, nodes_next}
use Rattle.grammar.specs.Naming.{node_of}
use Rattle.grammar.specs.Layout.{front, labels_part, nodes_part, RightLabels, InRange, RightNodes, UpToLabel}
use Rattle.grammar.proofs.Written.{form_is_label}
use Rattle.grammar.proofs.LayoutLaws.{Stands, stands_byte, stands_next, stands_first, stands-past, stands_at, more-length, more-each, right_next, right_new, range_ok, ok_range}

-- ── the front ──
-- the bytes of a file that is known
pub byte_of : (file s : List ℕ) → file ≡ s → (p : ℕ) → byte file p ≡ byte s p
byte_of file s e p = ap (λ (f : List ℕ). byte f p) e

pub mark_read : (file rest : List ℕ) → file ≡ bytes "RUL" ++ rest → Ok 3 ≡ read_mark file
mark_read file rest e = mark_ok file (omega (arith, ap length e)) (byte_of file _ e 0) (byte_of file _ e 1) (byte_of file _ e 2)

pub version_read : (file rest : List ℕ) → file ≡ bytes "RUL" ++ (1 ∷ 0 ∷ rest) → Ok 5 ≡ read_version file
version_read file rest e = version_ok file (omega (arith, ap length e)) (omega (arith, byte_of file _ e 3, byte_of file _ e 4))

module _ (file : List ℕ) (k : ℕ) (more : List ℕ) (is : file ≡ front k ++ more) where
  pub front_count : label_count file ≡ k
  front_count = byte_of file _ is 5

  pub front-stands : Stands file 6 more
  front-stands = record { size = omega (arith, ap length is); from = ap (drop 6) is }

  pub front_read : k ≤ 16 → Ok 6 ≡ read_head file
  front_read h =
      head_count file (Ok 3) (Ok 5) 3 5 (Ok 6)
      (mark_read file (1 ∷ 0 ∷ k ∷ more) is) refl
      (version_read file (k ∷ more) is) refl
      (labels_ok file (omega (arith, ap length is)) (omega (arith, front_count)))

-- ── labels ──
-- the labels ls are read, and rest follows at place p
pub record LabelsTo (file : List ℕ) (ls : List (List ℕ)) (p : ℕ) (rest : List ℕ) : Type 0 where
  pub read : read_labels file (length ls) ≡ Ok p
  pub place : p ≡ label_start file (length ls)
  pub bytes : (i : ℕ) → i < length ls → label_bytes file i ≡ capitals (get_or ls i [])
  pub stands : Stands file p rest

-- a label is listed exactly if it is one of those that are read
listed_any : (file : List ℕ) (n : ℕ) (l : List ℕ) → listed file n l ≡ any_below n (λ i. same? (label_bytes file i) l)
unfolding listed
listed_any file zero l = refl
listed_any file (suc n) l = ap (λ (b : Bool). b || same? (label_bytes file n) l) (listed_any file n l)

module _ {file : List ℕ} {ls : List (List ℕ)} {p : ℕ} {rest : List ℕ} (t : LabelsTo file ls p rest) (l : List ℕ) where
  pub listed_yes : (i : ℕ) → i < length ls → capitals (get_or ls i []) ≡ l → listed file (length ls) l ≡ true
  listed_yes i h e =
      listed_any file (length ls) l
      ∙ found_yes (λ i. same? (label_bytes file i) l) (length ls) i h (ap (λ (s : List ℕ). same? s l) (t.bytes i h ∙ e) ∙ same_refl l)

  pub listed_at : listed file (length ls) l ≡ true → (i : ℕ) × (i < length ls) × (capitals (get_or ls i []) ≡ l)
  listed_at e =
      let w = found_at (λ i. same? (label_bytes file i) l) (length ls) (sym (listed_any file (length ls) l) ∙ e) in
      (w.0, w.1, sym (t.bytes w.0 w.1) ∙ same_eq _ l w.2)

  pub listed_no : ((i : ℕ) → i < length ls → capitals (get_or ls i []) ≢ l) → listed file (length ls) l ≡ false
  listed_no new = either_bool (listed file (length ls) l) (λ e. let w = listed_at e in absurd (new w.0 w.1 w.2)) (λ e. e)

-- the next label is cut before or in its bytes, or its length byte is wrong
module _ {file : List ℕ} {ls : List (List ℕ)} {p : ℕ} where
  pub no_length : LabelsTo file ls p [] → Err RuleEndsEarly ≡ read_label file (length ls) p
  no_length t =
      let s = t.stands.size in
      label_none file (length ls) p (omega arith) (omega arith)

  module _ {n : ℕ} {rest : List ℕ} (t : LabelsTo file ls p (n ∷ rest)) where
    said : byte file p ≡ n
    said = stands_byte t.stands

    pub length_zero : n ≡ 0 → Err RuleLabel ≡ read_label file (length ls) p
    length_zero e = let s = t.stands.size in label_empty file (length ls) p (omega arith) (omega arith) (omega (arith, said))

    pub length_above : 24 < n → Err RuleLabel ≡ read_label file (length ls) p
    length_above h = let s = t.stands.size in label_long file (length ls) p (omega arith) (omega arith) (omega (arith, said)) (omega (arith, said))

    pub bytes_cut : 1 ≤ n → n ≤ 24 → length rest < n → Err RuleEndsEarly ≡ read_label file (length ls) p
    bytes_cut low high h =
        let s = t.stands.size in
        label_cut file (length ls) p (omega arith) (omega arith) (omega (arith, said)) (omega (arith, said)) (omega (arith, said))

-- the next label is whole
module _ {file : List ℕ} {ls : List (List ℕ)} {p : ℕ} (l rest : List ℕ) (t : LabelsTo file ls p (length l ∷ (l ++ rest))) (low : 1 ≤ length l) (high : length l ≤ 24) where
  size : byte file p ≡ length l
  size = stands_byte t.stands

  text : label_from file p ≡ capitals l
  text = ap capitals (ap (λ (n : ℕ). take n (drop (p + 1) file)) size ∙ stands_first l rest (stands_next t.stands))

  behind : Stands file (p + 1 + length l) rest
  behind = stands-past l rest (stands_next t.stands)

  within : length file ≡ p + 1 + length l + length rest
  within = behind.size

  pub wrong_form : label_form? (capitals l) ≡ false → Err RuleLabel ≡ read_label file (length ls) p
  wrong_form e =
      label_letter file (length ls) p (omega (arith, within)) (omega (arith, within)) (omega (arith, size)) (omega (arith, size)) (omega (arith, size, within)) false
      (sym (ap label_form? (bytes_part file p ∙ text) ∙ e)) refl

  module _ (form : label_form? (capitals l) ≡ true) where
    says : true ≡ label_form? (capitals (take (p + 1 + byte file p - (p + 1)) (drop (p + 1) file)))
    says = sym (ap label_form? (bytes_part file p ∙ text) ∙ form)

    pub twice-listed : listed file (length ls) (capitals l) ≡ true → Err RuleLabel ≡ read_label file (length ls) p
    twice-listed e =
        label_twice file (length ls) p (omega (arith, within)) (omega (arith, within)) (omega (arith, size)) (omega (arith, size)) (omega (arith, size, within)) true says
        true refl (sym (ap (listed file (length ls)) text ∙ e)) refl

    module _ (new : listed file (length ls) (capitals l) ≡ false) where
      taken : Ok (p + 1 + length l) ≡ read_label file (length ls) p
      taken =
          ap (λ (n : ℕ). Ok (p + 1 + n)) (sym size)
          ∙ label_ok file (length ls) p (omega (arith, within)) (omega (arith, within)) (omega (arith, size)) (omega (arith, size)) (omega (arith, size, within)) true says
          false refl (sym (ap (listed file (length ls)) text ∙ new)) refl

      one_more : length ls + 1 ≡ length (ls ++ (l ∷ []))
      one_more = omega (arith, more-length [] ls l)

      pub one_label_more : LabelsTo file (ls ++ (l ∷ [])) (p + 1 + length l) rest
      one_label_more =
          record {
            read = subst (λ (n : ℕ). read_labels file n ≡ Ok (p + 1 + length l)) one_more (labels_next file (length ls) p _ t.read taken _ refl);
            place = ap (λ (n : ℕ). p + 1 + n) (sym size) ∙ (place_next file (length ls) p t.place ∙ ap (label_start file) one_more);
            bytes = more-each [] ls l (λ i x. label_bytes file i ≡ capitals x) t.bytes (ap (label_from file) (sym t.place) ∙ text);
            stands = behind;
          }

-- all labels that are right are read, one after another
labels_from : {file : List ℕ} {p : ℕ} (done ls : List (List ℕ)) (rest : List ℕ) → LabelsTo file done p (labels_part ls ++ rest) → RightLabels (done ++ ls)
    → (q : ℕ) × LabelsTo file (done ++ ls) q rest
labels_from {file = file} {p = p} done [] rest t r = (p, subst (λ (z : List (List ℕ)). LabelsTo file z p rest) (sym (append-nil done)) t)
labels_from {file = file} {p = p} done (l ∷ ls) rest t r =
    let o = right_next done l ls r in
    let u : LabelsTo file done p (length l ∷ (l ++ (labels_part ls ++ rest))) = subst (λ (z : List ℕ). LabelsTo file done p (length l ∷ z)) (append_assoc l (labels_part ls) rest) t in
    let new = listed_no u (capitals l) (right_new done l ls r) in
    let v = one_label_more l (labels_part ls ++ rest) u (omega (arith, o.some, length-map l capital)) (omega (arith, o.few, length-map l capital)) ((form_is_label (capitals l)).1 o) new in
    let same : done ++ (l ∷ []) ++ ls ≡ done ++ (l ∷ ls) = append_assoc done (l ∷ []) ls in
    let w = labels_from {file = file} {p = p + 1 + length l} (done ++ (l ∷ [])) ls rest v (subst RightLabels (sym same) r) in
    (w.0, subst (λ (z : List (List ℕ)). LabelsTo file z w.0 rest) same w.1)

pub labels_to : {file : List ℕ} {k : ℕ} {ls : List (List ℕ)} {rest : List ℕ} → UpToLabel file k ls rest → (p : ℕ) × LabelsTo file ls p rest
unfolding read_labels label_start
labels_to {file} {k} {ls} {rest} u =
    labels_from [] ls rest (record { read = refl; place = refl; bytes = λ i h. absurd (omega arith); stands = front-stands file k (labels_part ls ++ rest) u.is }) u.labels

-- ── nodes ──
-- three bytes at the place of node n are that node
node_here : {file : List ℕ} (q n : ℕ) (x : Node) (rest : List ℕ) → Stands file (q + 3 * n) (x.kind ∷ x.a ∷ x.b ∷ rest) → node_at file q n ≡ x
node_here {file} q n x rest s =
    let two : q + 3 * n + 1 + 1 ≡ q + 3 * n + 2 = omega arith in
    let k = stands_byte s in
    let a = stands_byte (stands_next s) in
    let b = stands_byte (stands_at (q + 3 * n + 2) two (stands_next (stands_next s))) in
    λ i. record { kind = k i; a = a i; b = b i }

node_past : {file : List ℕ} (q n : ℕ) (x : Node) (rest : List ℕ) → Stands file (q + 3 * n) (x.kind ∷ x.a ∷ x.b ∷ rest) → Stands file (q + 3 * suc n) rest
node_past {file} q n x rest s = stands_at (q + 3 * suc n) (omega arith) (stands_next (stands_next (stands_next s)))

-- the nodes from node n on, where xs stand there
module _ {file : List ℕ} (q : ℕ) (rest : List ℕ) where
  pub nodes_past : (n : ℕ) (xs : List Node) → Stands file (q + 3 * n) (nodes_part xs ++ rest) → Stands file (q + 3 * (n + length xs)) rest
  nodes_past n [] s = stands_at (q + 3 * (n + 0)) (omega arith) s
  nodes_past n (x ∷ xs) s =
      stands_at (q + 3 * (n + suc (length xs))) (omega arith) (nodes_past (suc n) xs (node_past q n x (nodes_part xs ++ rest) s))

  pub nodes_agree : (n : ℕ) (xs : List Node) → Stands file (q + 3 * n) (nodes_part xs ++ rest) → (i : ℕ) → i < length xs → node_at file q (n + i) ≡ node_of xs i
  nodes_agree n [] s i h = absurd (omega arith)
  nodes_agree n (x ∷ xs) s zero h = let e : n + 0 ≡ n = omega arith in ap (node_at file q) e ∙ node_here q n x (nodes_part xs ++ rest) s
  nodes_agree n (x ∷ xs) s (suc i) h =
      let e : n + suc i ≡ suc n + i = omega arith in
      ap (node_at file q) e ∙ nodes_agree (suc n) xs (node_past q n x (nodes_part xs ++ rest) s) i (omega arith)

-- nodes xs at place q, right in a file of k labels
pub record NodesTo (file : List ℕ) (q k : ℕ) (xs : List Node) (rest : List ℕ) : Type 0 where
  pub labels : label_count file ≡ k
  pub agree : (i : ℕ) → i < length xs → node_at file q i ≡ node_of xs i
  pub right : RightNodes k xs
  pub stands : Stands file (q + 3 * length xs) rest

pub nodes_to : {file : List ℕ} {q k : ℕ} (xs : List Node) (rest : List ℕ) → label_count file ≡ k → Stands file q (nodes_part xs ++ rest) → RightNodes k xs → NodesTo file q k xs rest
nodes_to {file} {q} {k} xs rest l s r =
    let first : Stands file (q + 3 * 0) (nodes_part xs ++ rest) = stands_at (q + 3 * 0) (omega arith) s in
    record {
      labels = l;
      agree = λ i h. let e : i ≡ 0 + i = omega arith in ap (node_at file q) e ∙ nodes_agree q rest 0 xs first i h;
      right = r;
      stands = stands_at (q + 3 * length xs) (omega arith) (nodes_past q rest 0 xs first);
    }

module _ {file : List ℕ} {q k : ℕ} {xs : List Node} {rest : List ℕ} (t : NodesTo file q k xs rest) where
  tested : (i : ℕ) (x : Node) → node_at file q i ≡ x → fields_ok (label_count file) i (node_at file q i) ≡ fields_ok k i x
  tested i x e = ap₂ (λ (l : ℕ) (y : Node). fields_ok l i y) t.labels e

  pub nodes_are_read : (i : ℕ) → i ≤ length xs → read_nodes file q i ≡ Ok (q + 3 * i)
  nodes_are_read zero h = nodes_first file q
  nodes_are_read (suc i) h =
      let s = t.stands.size in
      let ok = tested i (node_of xs i) (t.agree i (omega arith)) ∙ range_ok k i (node_of xs i) (t.right i (omega arith)) in
      subst (λ (n : ℕ). read_nodes file q n ≡ Ok (q + 3 * n)) (add-one i)
      (nodes_next file q i _ _ (nodes_are_read i (omega arith)) (part_ok file (q + 3 * i) 3 _ RuleNode (omega arith) ok) _ refl)

  -- the next node is cut, or its kind or a field is not in range
  pub node_is_cut : length rest < 3 → Err RuleEndsEarly ≡ read_node file q (length xs)
  node_is_cut h = let s = t.stands.size in part_short file (q + 3 * length xs) 3 _ RuleNode (omega arith)

pub node_is_wrong : {file : List ℕ} {q k : ℕ} {xs : List Node} (x : Node) (rest : List ℕ) → NodesTo file q k xs (x.kind ∷ x.a ∷ x.b ∷ rest) → (InRange k (length xs) x → ⊥)
    → Err RuleNode ≡ read_node file q (length xs)
node_is_wrong {file} {q} {k} {xs} x rest t n =
    let s = t.stands.size in
    let wrong : fields_ok k (length xs) x ≡ false = either_bool (fields_ok k (length xs) x) (λ e. absurd (n (ok_range k (length xs) x e))) (λ e. e) in
    part_bad file (q + 3 * length xs) 3 _ RuleNode (omega arith) (tested t (length xs) x (node_here q (length xs) x rest t.stands) ∙ wrong)
