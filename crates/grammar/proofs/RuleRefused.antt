-- A rule file that meets a refusal is refused with it: each way to meet one says what stands in the file before the fault, so that
-- reading comes to it.
use Prim.Native.Nat.{ℕ, suc, ◌+◌, ◌*◌, ◌<◌, ◌≤◌}
use mathlib.Core.Path.{◌≡◌, refl, sym, ap, ◌∙◌}
use mathlib.Core.Logic.{◌≢◌, ◌↔◌}
use mathlib.Core.Bool.{Bool, true, false}
use mathlib.Core.List.{List, [], ◌∷◌, ◌++◌, append_assoc}
use native.Mathlib.Omega.{arith}
use lib.ListN.{length, length-map}
use Rattle.lists.specs.Lists.{bytes}
use Rattle.lists.proofs.Cases.{either_eq, either_bool}
use Rattle.labels.specs.Label.{capital, capitals, label_form?}
use Rattle.rules.specs.Formula.{no_scope, scoped, shallow}
use Rattle.rules.specs.Parts.{byte, label_count, read_mark, read_version, read_label_count, read_head, read_node_count}
use Rattle.rules.specs.Labels.{read_label, read_labels}
use Rattle.rules.specs.Table.{read_node, read_nodes}
use Rattle.rules.specs.Checks.{named_once, root_formula, whole_table}
use Rattle.rules.specs.Rules.{rule_of}
use Rattle.rules.specs.declared.Node.{Node}
use Rattle.rules.specs.declared.Rule.{Rule}
use Rattle.refusals.specs.Refusal.{number, RefusedWith}
use Rattle.std.specs.Prelude.{Ok, Err}
use Rattle.refusals.specs.declared.Refusal.{Refusal}
use Rattle.std.specs.Prelude.{Result}
use Rattle.refusals.specs.declared.Refusal.TheVariants.{RuleEndsEarly, RuleMark, RuleVersion, RuleCount, RuleLabel, RuleNode, RuleTooLong, RuleNotATree, RuleUnbound, RuleTooDeep}
use Rattle.rules.proofs.Parts.{mark_short, mark_r, mark_u, mark_l, version-short, version_bad, labels_short, labels_many, head_mark, head_version, head_count, count_short, count_none, count_many, count_ok}
use Rattle.rules.proofs.Labels.{labels_stop}
use Rattle.rules.proofs.Nodes.{nodes_stop}
use Rattle.rules.proofs.Rules.{rule_head, rule_labels, rule_count, rule_nodes, rule_more, rule_whole}
use Rattle.grammar.specs.Naming.{NamedOnce, AllNamedOnce, Uses, Bound, AllBound, FiveNested}
use Rattle.grammar.specs.Layout.{front, labels_part, nodes_part, UpToLabel, UpToNode}
use Rattle.grammar.specs.MetRule.{WrongLength, zero as zero-length, above, WrongBytes, wrong, twice, WrongCount, none, above-64, MetRule, mark_cut, mark, version-cut, version, count_cut, count, length_cut, length_byte, label_cut, label, nodes_cut, node_count_lem, node_cut, node, follows, not_once, unbound, nested}
use Rattle.grammar.proofs.Written.{no_form_wrong}
use Rattle.grammar.proofs.TableMet.{once_met, not_once_met, bound_met, unbound_met, nested_met}
use Rattle.grammar.proofs.LayoutLaws.{stands_byte, stands_next}
use Rattle.grammar.proofs.ReadParts.{byte_of, mark_read, version_read, front_count, front_read, LabelsTo, listed_yes, no_length, length_zero, length_above, bytes_cut, wrong_form, twice-listed, labels_to, NodesTo, nodes_to, nodes_are_read, node_is_cut, node_is_wrong}

-- the file is refused with c
abbrev Refuses : List ℕ → ℕ → Type 0
Refuses file c = RefusedWith c (rule_of file)

refused_by : {r : Result Rule Refusal} (e : Refusal) → Err e ≡ r → RefusedWith (number e) r
refused_by e h = (e, (sym h, refl))

none_left : (l : List ℕ) → length l ≡ 0 → l ≡ []
none_left [] e = refl
none_left (x ∷ l) e = absurd (omega arith)

-- ── the front ──
module _ (file : List ℕ) where
  head_refuses : (e : Refusal) → Err e ≡ read_head file → Refuses file (number e)
  head_refuses e h = refused_by e (rule_head file (Err e) h e refl)

  mark_refuses : (e : Refusal) → Err e ≡ read_mark file → Refuses file (number e)
  mark_refuses e h = head_refuses e (head_mark file (Err e) e h refl)

  mark_wrong : (m rest : List ℕ) → file ≡ m ++ rest → length m ≡ 3 → m ≢ bytes "RUL" → Err RuleMark ≡ read_mark file
  mark_wrong [] rest e h n = absurd (omega arith)
  mark_wrong (a ∷ []) rest e h n = absurd (omega arith)
  mark_wrong (a ∷ b ∷ []) rest e h n = absurd (omega arith)
  mark_wrong (a ∷ b ∷ c ∷ []) rest e h n =
      let long : 3 ≤ length file = omega (arith, ap length e) in
      let at = byte_of file (a ∷ b ∷ c ∷ rest) e in
      either_eq a 82
      (λ r.
      either_eq b 85
      (λ u.
      either_eq c 76
      (λ l. absurd (n (λ i. r i ∷ u i ∷ l i ∷ [])))
      (λ l. mark_l file long (at 0 ∙ r) (at 1 ∙ u) (λ z. l (sym (at 2) ∙ z))))
      (λ u. mark_u file long (at 0 ∙ r) (λ z. u (sym (at 1) ∙ z))))
      (λ r. mark_r file long (λ z. r (sym (at 0) ∙ z)))
  mark_wrong (a ∷ b ∷ c ∷ d ∷ m) rest e h n = absurd (omega arith)

  version-refuses : (r : Refusal) (rest : List ℕ) → file ≡ bytes "RUL" ++ rest → Err r ≡ read_version file → Refuses file (number r)
  version-refuses r rest e h = head_refuses r (head_version file (Ok 3) (Err r) r 3 (mark_read file rest e) refl h refl)

  count_refuses : (r : Refusal) (rest : List ℕ) → file ≡ bytes "RUL" ++ (1 ∷ 0 ∷ rest) → Err r ≡ read_label_count file → Refuses file (number r)
  count_refuses r rest e h =
      head_refuses r (head_count file (Ok 3) (Ok 5) 3 5 (Err r) (mark_read file (1 ∷ 0 ∷ rest) e) refl (version_read file rest e) refl h)

-- ── the labels ──
-- A fault at the label behind ls refuses the file.
module _ {file : List ℕ} {k : ℕ} {ls : List (List ℕ)} {rest : List ℕ} (u : UpToLabel file k ls rest) where
  head : Ok 6 ≡ read_head file
  head = front_read file k (labels_part ls ++ rest) u.is u.count

  counted : label_count file ≡ k
  counted = front_count file k (labels_part ls ++ rest) u.is

  label_refuses : (e : Refusal) (p : ℕ) → LabelsTo file ls p rest → length ls < k → Err e ≡ read_label file (length ls) p → Refuses file (number e)
  label_refuses e p t h f =
      refused_by e (rule_labels file (Ok 6) head 6 refl (Err e) (labels_stop file (length ls) p _ t.read f e (label_count file) refl (omega (arith, counted))) e refl)

-- ── the node count ──
-- A fault at the byte behind all labels refuses the file.
module _ {file : List ℕ} {ls : List (List ℕ)} {rest : List ℕ} (u : UpToLabel file (length ls) ls rest) {p : ℕ} (t : LabelsTo file ls p rest) where
  listing : Ok p ≡ read_labels file (label_count file)
  listing = sym (ap (read_labels file) (counted u) ∙ t.read)

  number-refuses : (e : Refusal) → Err e ≡ read_node_count file p → Refuses file (number e)
  number-refuses e f = refused_by e (rule_count file (Ok 6) (head u) 6 refl (Ok p) listing p refl (Err e) f e refl)

-- ── the nodes ──
-- A fault at the node behind xs refuses the file, and so do bytes behind the last one.
module _ {file : List ℕ} {ls : List (List ℕ)} {n : ℕ} {xs : List Node} {rest : List ℕ} (u : UpToNode file ls n xs rest) where
  up_to_count : UpToLabel file (length ls) ls (n ∷ (nodes_part xs ++ rest))
  up_to_count =
      record {
        is = u.is ∙ append_assoc (front (length ls) ++ labels_part ls) (n ∷ nodes_part xs) rest;
        count = u.count;
        labels = u.labels;
      }

  -- the place of the node count
  pub place : ℕ
  place = (labels_to up_to_count).0

  pub listed_to : LabelsTo file ls place (n ∷ (nodes_part xs ++ rest))
  unfolding place
  listed_to = (labels_to up_to_count).1

  count_is : byte file place ≡ n
  count_is = stands_byte listed_to.stands

  numbered : Ok (place + 1) ≡ read_node_count file place
  numbered =
      let s = listed_to.stands.size in
      count_ok file place (omega arith) (omega (arith, count_is, u.some)) (omega (arith, count_is, u.few))

  pub nodes : NodesTo file (place + 1) (length ls) xs rest
  nodes = nodes_to xs rest (counted up_to_count) (stands_next listed_to.stands) u.nodes

  node_refuses : (e : Refusal) → length xs < n → Err e ≡ read_node file (place + 1) (length xs) → Refuses file (number e)
  node_refuses e h f =
      refused_by e (rule_nodes file (Ok 6) (head up_to_count) 6 refl (Ok place) (listing up_to_count listed_to) place refl (Ok (place + 1)) numbered (place + 1) refl (Err e)
      (nodes_stop file (place + 1) (length xs) _ _ (nodes_are_read nodes (length xs) (omega arith)) f e (byte file place) refl (omega (arith, count_is))) e refl)

  -- the place behind the last node
  module _ (all : length xs ≡ n) where
    end : ℕ
    end = place + 1 + 3 * length xs

    whole : Ok end ≡ read_nodes file (place + 1) (byte file place)
    unfolding end
    whole = sym (ap (read_nodes file (place + 1)) (count_is ∙ sym all) ∙ nodes_are_read nodes (length xs) (omega arith))

    after : length file ≡ end + length rest
    unfolding end
    after = nodes.stands.size

    more-refuses : rest ≢ [] → Refuses file 7
    more-refuses m =
        refused_by RuleTooLong (rule_more file (Ok 6) (head up_to_count) 6 refl (Ok place) (listing up_to_count listed_to) place refl (Ok (place + 1)) numbered (place + 1) refl (Ok end) whole end refl
        (λ e. m (none_left rest (omega (arith, after)))))

-- ── the whole table ──
module _ {file : List ℕ} {ls : List (List ℕ)} {xs : List Node} (u : UpToNode file ls (length xs) xs []) where
  table_is : (y : Result Rule Refusal) → y ≡ whole_table file (place u + 1) (length xs) → rule_of file ≡ y
  table_is y e =
      sym (rule_whole file (Ok 6) (head (up_to_count u)) 6 refl (Ok (place u)) (listing (up_to_count u) (listed_to u)) (place u) refl (Ok (place u + 1)) (numbered u) (place u + 1) refl
      (Ok (end u refl)) (whole u refl) (end u refl) refl y (omega (arith, after u refl)) (e ∙ ap (whole_table file (place u + 1)) (sym (count_is u))))

  -- the tests of the whole table, and what they say
  abbrev pub once : Bool
  once = named_once file (place u + 1) (length xs)

  abbrev pub closed : Bool
  closed = scoped (root_formula file (place u + 1) (length xs)) no_scope

  abbrev pub flat : Bool
  flat = shallow 4 (root_formula file (place u + 1) (length xs))

  pub once-says : (once ≡ true) ↔ AllNamedOnce xs
  once-says = once_met file (place u + 1) (length ls) xs (nodes u).agree u.nodes u.some

  pub not_once-says : (once ≡ false) ↔ ((n : ℕ) × (suc n < length xs) × (NamedOnce xs n → ⊥))
  not_once-says = not_once_met file (place u + 1) (length ls) xs (nodes u).agree u.nodes u.some

  module _ (o : AllNamedOnce xs) where
    pub closed_says : (closed ≡ true) ↔ AllBound xs
    closed_says = bound_met file (place u + 1) (length ls) xs (nodes u).agree u.nodes u.some o

    pub unbound-says : (closed ≡ false) ↔ ((n : ℕ) × (v : ℕ) × Uses xs n v × (Bound xs n v → ⊥))
    unbound-says = unbound_met file (place u + 1) (length ls) xs (nodes u).agree u.nodes u.some o

    pub nested-says : (flat ≡ false) ↔ FiveNested xs
    nested-says = nested_met file (place u + 1) (length ls) xs (nodes u).agree u.nodes u.some o

  -- and what each makes of the file
  once-refuses : once ≡ false → Refuses file 8
  unfolding whole_table
  once-refuses a = refused_by RuleNotATree (sym (table_is (Err RuleNotATree) (rw a refl)))

  unbound-refuses : once ≡ true → closed ≡ false → Refuses file 9
  unfolding whole_table
  unbound-refuses a b = refused_by RuleUnbound (sym (table_is (Err RuleUnbound) (rw (a, b) refl)))

  nested-refuses : once ≡ true → closed ≡ true → flat ≡ false → Refuses file 10
  unfolding whole_table
  nested-refuses a b d = refused_by RuleTooDeep (sym (table_is (Err RuleTooDeep) (rw (a, b, d) refl)))

  -- the rule of a file that none of them refuses
  abbrev pub rule : Rule
  rule = record { labels = label_count file; nodes = place u + 1; count = length xs }

  pub table_taken : once ≡ true → closed ≡ true → flat ≡ true → rule_of file ≡ Ok rule
  unfolding whole_table
  table_taken a b d = table_is (Ok rule) (rw (a, b, d) refl)

-- ── a file that meets a refusal is refused with it ──
module _ {file : List ℕ} {k : ℕ} {ls : List (List ℕ)} (l rest : List ℕ) (u : UpToLabel file k ls (length l ∷ (l ++ rest))) (h : length ls < k) (low : 1 ≤ length l) (high : length l ≤ 24) where
  form_refuses : label_form? (capitals l) ≡ false → Refuses file 5
  form_refuses e = let t = labels_to u in label_refuses u RuleLabel t.0 t.1 h (wrong_form l rest t.1 low high e)

  bytes_refuse : WrongBytes ls l → Refuses file 5
  bytes_refuse (wrong w) = form_refuses ((no_form_wrong (capitals l) (omega (arith, low, length-map l capital))).1 w)
  bytes_refuse (twice i j e) =
      let t = labels_to u in
      either_bool (label_form? (capitals l))
      (λ f. label_refuses u RuleLabel t.0 t.1 h (twice-listed l rest t.1 low high f (listed_yes t.1 (capitals l) i j e)))
      form_refuses

length-refuses : {file : List ℕ} {k n : ℕ} {ls : List (List ℕ)} {rest : List ℕ} → UpToLabel file k ls (n ∷ rest) → length ls < k → WrongLength n → Refuses file 5
length-refuses u h (zero-length e) = let t = labels_to u in label_refuses u RuleLabel t.0 t.1 h (length_zero t.1 e)
length-refuses u h (above e) = let t = labels_to u in label_refuses u RuleLabel t.0 t.1 h (length_above t.1 e)

node_count_refuses : {file : List ℕ} {n : ℕ} {ls : List (List ℕ)} {rest : List ℕ} → UpToLabel file (length ls) ls (n ∷ rest) → WrongCount n → Refuses file 4
node_count_refuses {file} {n} u w =
    let t = labels_to u in
    let s = t.1.stands.size in
    let e = stands_byte t.1.stands in
    number-refuses u t.1 RuleCount (go t.0 e (omega arith) w)
  where
    go : (p : ℕ) → byte file p ≡ n → p < length file → WrongCount n → Err RuleCount ≡ read_node_count file p
    go p e h (none z) = count_none file p h (omega arith)
    go p e h (above-64 z) = count_many file p h (omega arith) (omega arith)

pub met_refused : (file : List ℕ) (c : ℕ) → MetRule file c → Refuses file c
met_refused file c m = go m
  where
    says : (d : ℕ) → Refuses file d → c ≡ d → Refuses file c
    says d r e = (r.0, (r.1.0, r.1.1 ∙ sym e))

    go : MetRule file c → Refuses file c
    go (mark_cut h e) = says 1 (mark_refuses file RuleEndsEarly (mark_short file h)) e
    go (mark m rest f h n e) = says 2 (mark_refuses file RuleMark (mark_wrong file m rest f h n)) e
    go (version-cut rest f h e) = says 1 (version-refuses file RuleEndsEarly rest f (version-short file (omega (arith, ap length f)))) e
    go (version low high rest f n e) =
        let bad = version_bad file (omega (arith, ap length f)) (λ z. n (omega (arith, z, byte_of file _ f 3, byte_of file _ f 4))) in
        says 3 (version-refuses file RuleVersion (low ∷ high ∷ rest) f bad) e
    go (count_cut f e) = says 1 (count_refuses file RuleEndsEarly [] f (labels_short file (omega (arith, ap length f)))) e
    go (count k rest f h e) = says 4 (count_refuses file RuleCount (k ∷ rest) f (labels_many file (omega (arith, ap length f)) (omega (arith, byte_of file _ f 5)))) e
    go (length_cut k ls u h e) = let t = labels_to u in says 1 (label_refuses u RuleEndsEarly t.0 t.1 h (no_length t.1)) e
    go (length_byte k ls n rest u h w e) = says 5 (length-refuses u h w) e
    go (label_cut k ls n rest u h low high cut e) = let t = labels_to u in says 1 (label_refuses u RuleEndsEarly t.0 t.1 h (bytes_cut t.1 low high cut)) e
    go (label k ls l rest u h low high w e) = says 5 (bytes_refuse l rest u h low high w) e
    go (nodes_cut ls u e) = let t = labels_to u in let s = t.1.stands.size in says 1 (number-refuses u t.1 RuleEndsEarly (count_short file t.0 (omega arith))) e
    go (node_count_lem ls n rest u w e) = says 4 (node_count_refuses u w) e
    go (node_cut ls n xs rest u h cut e) = says 1 (node_refuses u RuleEndsEarly h (node_is_cut (nodes u) cut)) e
    go (node ls n xs x rest u h bad e) = says 6 (node_refuses u RuleNode h (node_is_wrong x rest (nodes u) bad)) e
    go (follows ls n xs rest u all m e) = says 7 (more-refuses u all m) e
    go (not_once ls xs u n h bad e) = says 8 (once-refuses u ((not_once-says u).1 (n, h, bad))) e
    go (unbound ls xs u o n v used free e) = says 9 (unbound-refuses u ((once-says u).1 o) ((unbound-says u o).1 (n, v, used, free))) e
    go (nested ls xs u o b five e) = says 10 (nested-refuses u ((once-says u).1 o) ((closed_says u o).1 b) ((nested-says u o).1 five)) e
