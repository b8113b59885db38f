-- Where 1 to 10 are met: a rule file is refused with c exactly if it meets c. Going through its parts, every file meets a refusal or is
-- taken; and one that meets a refusal is refused with it (`met_refused`).
use Prim.Native.Nat.{ℕ, zero, suc, ◌+◌, ◌*◌, ◌<◌, ◌≤◌}
use mathlib.Core.Path.{◌≡◌, refl, sym, subst, ap, ◌∙◌}
use mathlib.Core.Logic.{◌≢◌, ◌↔◌}
use mathlib.Core.Bool.{true}
use mathlib.Core.List.{List, [], ◌∷◌, ◌++◌, append_assoc}
use native.Mathlib.Omega.{arith}
use lib.ListN.{length, get_or, take, drop, take-append-drop, length-map}
use lib.Seq.{length-take-le}
use Rattle.lists.specs.Lists.{bytes, same?}
use Rattle.lists.proofs.Cases.{either_eq, either_lt, either_bool, no_both}
use Rattle.lists.proofs.Lists.{same_eq}
use Rattle.labels.specs.Label.{capital, capitals, label_form?}
use Rattle.rules.specs.Labels.{listed}
use Rattle.rules.specs.Table.{fields_ok}
use Rattle.rules.specs.Rules.{rule_of}
use Rattle.rules.proofs.Parts.{one_number, taken_or_refused}
use Rattle.rules.specs.declared.Node.{Node}
use Rattle.refusals.specs.Refusal.{RefusedWith}
use Rattle.grammar.specs.Written.{IsLabel}
use Rattle.grammar.specs.Naming.{node_of}
use Rattle.grammar.specs.Layout.{front, labels_part, nodes_part, InRange, UpToLabel, UpToNode}
use Rattle.grammar.specs.MetRule.{zero as zero-length, above, wrong, twice, none, above-64, MetRule, mark_cut, mark, version-cut, version, count_cut, count, length_cut, length_byte, label_cut, label, nodes_cut, node_count_lem, node_cut, node, follows, not_once, unbound, nested}
use Rattle.grammar.proofs.Written.{form_is_label, no_form_wrong}
use Rattle.grammar.proofs.LayoutLaws.{labels_more, more-length, more-each, right_more, nodes_more, range_ok, ok_range}
use Rattle.grammar.proofs.ReadParts.{listed_yes, listed_at, labels_to}
use Rattle.grammar.proofs.RuleRefused.{met_refused, once, closed, flat, once-says, not_once-says, closed_says, unbound-says, nested-says, rule, table_taken}

-- ── the layout, one part further ──
-- what follows s joins it
joined : (p s t r : List ℕ) → p ++ s ++ (t ++ r) ≡ p ++ (s ++ t) ++ r
joined p s t r = sym (append_assoc (p ++ s) t r) ∙ ap (λ (z : List ℕ). z ++ r) (append_assoc p s t)

up_to_next_label : {file : List ℕ} {k : ℕ} {ls : List (List ℕ)} (l rest : List ℕ) → UpToLabel file k ls (length l ∷ (l ++ rest)) → IsLabel (capitals l) → ((i : ℕ) → i < length ls → capitals (get_or ls i []) ≢ capitals l)
    → UpToLabel file k (ls ++ (l ∷ [])) rest
up_to_next_label {k = k} {ls = ls} l rest u o new =
    record {
      is = u.is ∙ (joined (front k) (labels_part ls) (length l ∷ l) rest ∙ ap (λ (z : List ℕ). front k ++ z ++ rest) (sym (labels_more ls l)));
      count = u.count;
      labels = right_more ls l u.labels o new;
    }

module _ {file : List ℕ} {ls : List (List ℕ)} where
  up_to_first_node : {n : ℕ} {rest : List ℕ} → UpToLabel file (length ls) ls (n ∷ rest) → 1 ≤ n → n ≤ 64 → UpToNode file ls n [] rest
  up_to_first_node {n} {rest} u low high =
      record {
        is = u.is ∙ sym (append_assoc (front (length ls) ++ labels_part ls) (n ∷ []) rest);
        count = u.count;
        labels = u.labels;
        some = low;
        few = high;
        nodes = λ i h. absurd (omega arith);
      }

  up_to_next_node : {n : ℕ} {xs : List Node} {x : Node} {rest : List ℕ} → UpToNode file ls n xs (x.kind ∷ x.a ∷ x.b ∷ rest) → InRange (length ls) (length xs) x
      → UpToNode file ls n (xs ++ (x ∷ [])) rest
  up_to_next_node {n} {xs} {x} {rest} u r =
      record {
        is = u.is
            ∙ (joined (front (length ls) ++ labels_part ls) (n ∷ nodes_part xs) (x.kind ∷ x.a ∷ x.b ∷ []) rest
            ∙ ap (λ (z : List ℕ). front (length ls) ++ labels_part ls ++ (n ∷ z) ++ rest) (sym (nodes_more xs x)));
        count = u.count;
        labels = u.labels;
        some = u.some;
        few = u.few;
        nodes = more-each (node_of [] 0) xs x (λ i y. InRange (length ls) i y) u.nodes r;
      }

-- ── every file meets a refusal or is taken ──
-- one that is taken is whole, and passes the tests of the whole table
pub data MetOrTaken (file : List ℕ) : Type 0 where
  met : (c : ℕ) → MetRule file c → MetOrTaken file
  taken : (ls : List (List ℕ)) (xs : List Node) (u : UpToNode file ls (length xs) xs []) → once u ≡ true → closed u ≡ true → flat u ≡ true → MetOrTaken file

settle_table : {file : List ℕ} (ls : List (List ℕ)) (xs : List Node) → UpToNode file ls (length xs) xs [] → MetOrTaken file
settle_table ls xs u =
    either_bool (once u)
    (λ a.
    let o = (once-says u).0 a in
    either_bool (closed u)
    (λ b.
    either_bool (flat u)
    (λ d. taken ls xs u a b d)
    (λ d. met 10 (nested ls xs u o ((closed_says u o).0 b) ((nested-says u o).0 d) refl)))
    (λ b. let w = (unbound-says u o).0 b in met 9 (unbound ls xs u o w.0 w.1 w.2 w.3 refl)))
    (λ a. let w = (not_once-says u).0 a in met 8 (not_once ls xs u w.0 w.1 w.2 refl))

settle_end : {file : List ℕ} (ls : List (List ℕ)) (n : ℕ) (xs : List Node) (rest : List ℕ) → UpToNode file ls n xs rest → length xs ≡ n → MetOrTaken file
settle_end {file} ls n xs [] u e = settle_table ls xs (subst (λ (m : ℕ). UpToNode file ls m xs []) (sym e) u)
settle_end {file} ls n xs (y ∷ ys) u e = met 7 (follows ls n xs (y ∷ ys) u e (λ z. absurd (omega (arith, ap length z))) refl)

-- d nodes are left
settle_nodes : {file : List ℕ} (d : ℕ) (ls : List (List ℕ)) (n : ℕ) (xs : List Node) (rest : List ℕ) → UpToNode file ls n xs rest → length xs + d ≡ n → MetOrTaken file
settle_nodes zero ls n xs rest u e = settle_end ls n xs rest u (omega arith)
settle_nodes (suc d) ls n xs [] u e = met 1 (node_cut ls n xs [] u (omega arith) (omega arith) refl)
settle_nodes (suc d) ls n xs (a ∷ []) u e = met 1 (node_cut ls n xs (a ∷ []) u (omega arith) (omega arith) refl)
settle_nodes (suc d) ls n xs (a ∷ b ∷ []) u e = met 1 (node_cut ls n xs (a ∷ b ∷ []) u (omega arith) (omega arith) refl)
settle_nodes {file} (suc d) ls n xs (a ∷ b ∷ c ∷ rest) u e =
    let x : Node = record { kind = a; a = b; b = c } in
    either_bool (fields_ok (length ls) (length xs) x)
    (λ f. settle_nodes d ls n (xs ++ (x ∷ [])) rest (up_to_next_node u (ok_range (length ls) (length xs) x f)) (omega (arith, more-length x xs x)))
    (λ f. met 6 (node ls n xs x rest u (omega arith) (λ r. no_both (sym (range_ok (length ls) (length xs) x r) ∙ f)) refl))

settle_count : {file : List ℕ} (ls : List (List ℕ)) (rest : List ℕ) → UpToLabel file (length ls) ls rest → MetOrTaken file
settle_count ls [] u = met 1 (nodes_cut ls u refl)
settle_count {file} ls (n ∷ rest) u =
    either_eq n 0
    (λ e. met 4 (node_count_lem ls n rest u (none e) refl))
    λ m.
    either_lt 64 n
    (λ h. met 4 (node_count_lem ls n rest u (above-64 h) refl))
    (λ h. settle_nodes n ls n [] rest (up_to_first_node u (omega arith) h) (omega arith))

-- a label that is whole
settle_label : {file : List ℕ} {k : ℕ} {ls : List (List ℕ)} (l rest : List ℕ) → UpToLabel file k ls (length l ∷ (l ++ rest)) → length ls < k → 1 ≤ length l → length l ≤ 24
    → (UpToLabel file k (ls ++ (l ∷ [])) rest → MetOrTaken file) → MetOrTaken file
settle_label {file} {k} {ls} l rest u h low high next =
    let t = (labels_to u).1 in
    either_bool (label_form? (capitals l))
    (λ f.
    either_bool (listed file (length ls) (capitals l))
    (λ e. let w = listed_at t (capitals l) e in met 5 (label k ls l rest u h low high (twice w.0 w.1 w.2) refl))
    (λ e. next (up_to_next_label l rest u ((form_is_label (capitals l)).0 f) (λ i j s. no_both (sym (listed_yes t (capitals l) i j s) ∙ e)))))
    (λ f. met 5 (label k ls l rest u h low high (wrong ((no_form_wrong (capitals l) (omega (arith, low, length-map l capital))).0 f)) refl))

-- d labels are left
settle_labels : {file : List ℕ} (d k : ℕ) (ls : List (List ℕ)) (rest : List ℕ) → UpToLabel file k ls rest → length ls + d ≡ k → MetOrTaken file
settle_labels {file} zero k ls rest u e = let f : k ≡ length ls = omega arith in settle_count ls rest (subst (λ (m : ℕ). UpToLabel file m ls rest) f u)
settle_labels (suc d) k ls [] u e = met 1 (length_cut k ls u (omega arith) refl)
settle_labels {file} (suc d) k ls (n ∷ rest) u e =
    either_eq n 0
    (λ z. met 5 (length_byte k ls n rest u (omega arith) (zero-length z) refl))
    λ m.
    either_lt 24 n
    (λ h. met 5 (length_byte k ls n rest u (omega arith) (above h) refl))
    λ h.
    either_lt (length rest) n
    (λ cut. met 1 (label_cut k ls n rest u (omega arith) (omega arith) h cut refl))
    λ room.
    let l : List ℕ = take n rest in
    let size : length l ≡ n = length-take-le n rest room in
    settle_label l (drop n rest) (subst (UpToLabel file k ls) (λ i. sym size i ∷ sym (take-append-drop n rest) i) u) (omega arith) (omega arith) (omega arith)
    (λ v. settle_labels d k (ls ++ (l ∷ [])) (drop n rest) v (omega (arith, more-length [] ls l)))

settle_label_count : {file : List ℕ} (rest : List ℕ) → file ≡ bytes "RUL" ++ (1 ∷ 0 ∷ rest) → MetOrTaken file
settle_label_count [] e = met 1 (count_cut e refl)
settle_label_count (k ∷ rest) e =
    either_lt 16 k
    (λ h. met 4 (count k rest e h refl))
    (λ h. settle_labels k k [] rest (record { is = e; count = h; labels = record { each = λ i l. absurd (omega arith); none_twice = λ i j l m. absurd (omega arith) } }) (omega arith))

settle_version : {file : List ℕ} (rest : List ℕ) → file ≡ bytes "RUL" ++ rest → MetOrTaken file
settle_version [] e = met 1 (version-cut [] e (omega arith) refl)
settle_version (x ∷ []) e = met 1 (version-cut (x ∷ []) e (omega arith) refl)
settle_version (low ∷ high ∷ rest) e =
    either_eq (low + 256 * high) 1
    (λ v.
    let l : low ≡ 1 = omega arith in
    let h : high ≡ 0 = omega arith in
    settle_label_count rest (e ∙ (λ i. bytes "RUL" ++ (l i ∷ h i ∷ rest))))
    (λ v. met 3 (version low high rest e v refl))

pub settled : (file : List ℕ) → MetOrTaken file
settled [] = met 1 (mark_cut (omega arith) refl)
settled (a ∷ []) = met 1 (mark_cut (omega arith) refl)
settled (a ∷ b ∷ []) = met 1 (mark_cut (omega arith) refl)
settled (a ∷ b ∷ c ∷ rest) =
    either_bool (same? (a ∷ b ∷ c ∷ []) (bytes "RUL"))
    (λ s. settle_version rest (ap (λ (m : List ℕ). m ++ rest) (same_eq (a ∷ b ∷ c ∷ []) (bytes "RUL") s)))
    (λ s. met 2 (mark (a ∷ b ∷ c ∷ []) rest refl refl (λ e. no_both (sym (ap (λ (m : List ℕ). same? m (bytes "RUL")) e) ∙ s)) refl))

-- THE LAW: a rule file is refused with c exactly if it meets c.
pub rule_met : (file : List ℕ) (c : ℕ) → RefusedWith c (rule_of file) ↔ MetRule file c
rule_met file c = (λ e. go (settled file) e, met_refused file c)
  where
    go : MetOrTaken file → RefusedWith c (rule_of file) → MetRule file c
    go (met d m) e = subst (MetRule file) (one_number (rule_of file) d c (met_refused file d m) e) m
    go (taken ls xs u a b d) e = taken_or_refused (rule_of file) (rule u) c (table_taken u a b d) e
