-- The label table: the labels in order of first appearance, and the 128 places through which they are found.
use Rattle.std.specs.Prelude.{ℕ, zero, suc, ◌+◌, ◌-◌, ◌%◌, ◌≤◌, ◌≡◌, List, [], ◌∷◌, ◌++◌, cond, length, get_or, set, replicate, eqb, leb}
use Rattle.lists.specs.Lists.{pad}
use Rattle.lists.specs.Limits.{max_log_labels}
use Rattle.labels.specs.Fnv.{fnv_of}
use Rattle.labels.specs.declared.LabelNo.{LabelNo}
use Rattle.labels.specs.declared.Label.{Label}
use Rattle.labels.specs.declared.LabelTable.{LabelTable}
use Rattle.labels.specs.Label.{label_no, no_label, absent, text, equal_label?}

-- ── labels in order of first appearance ──
-- the place of the first label that is x, or the place after the last
unfoldable pub index_of : List Label → Label → ℕ
index_of [] x = 0
index_of (l ∷ ls) x = cond (equal_label? l x) 0 (suc (index_of ls x))

-- A label's number: its place in the list, from 1; "label 0 means none".
unfoldable pub number_of : List Label → Label → ℕ
number_of ls x = cond (eqb x.length 0) 0 (suc (index_of ls x))

-- the labels once x is among them
unfoldable pub with_label : List Label → Label → List Label
with_label ls x = cond (eqb x.length 0) ls (cond (leb (length ls) (index_of ls x)) (ls ++ (x ∷ [])) ls)

-- label n of a list, n from 1
abbrev pub label_at : List Label → ℕ → Label
label_at ls n = get_or ls (n - 1) absent

-- no label is listed twice
unfoldable pub Distinct : List Label → Type 0
Distinct ls = (i j : ℕ) → (i ≡ 0 → ⊥) → i ≤ length ls → (j ≡ 0 → ⊥) → j ≤ length ls → label_at ls i ≡ label_at ls j → i ≡ j

-- ── the 128 places ──
-- "Labels are found through 128 places."
abbrev pub label_places : ℕ
label_places = 128

-- "A label's first place is the 32-bit FNV-1a hash of its bytes modulo 128"
unfoldable pub first_place : Label → ℕ
first_place x = fnv_of (text x) % label_places

-- the number at a place; "An empty place holds 0."
abbrev pub place_at : List LabelNo → ℕ → ℕ
place_at ps p = (get_or ps p (label_no 0)).0

-- "if taken by another label, the next place, 127 being followed by 0": the first empty place from p on, among k
unfoldable pub free_from : (ℕ → ℕ) → ℕ → ℕ → ℕ
free_from pl p zero = p
free_from pl p (suc k) = cond (eqb (pl p) 0) p (free_from pl ((p + 1) % label_places) k)

abbrev pub free_place : List LabelNo → Label → ℕ
free_place ps x = free_from (place_at ps) (first_place x) label_places

-- the label x put under the number n
unfoldable pub insert : List LabelNo → ℕ → Label → List LabelNo
insert ps n x = set ps (free_place ps x) (label_no n)

-- labels put one after another, the first under the number n
unfoldable pub insert_all : List LabelNo → ℕ → List Label → List LabelNo
insert_all ps n [] = ps
insert_all ps n (x ∷ xs) = insert_all (insert ps n x) (suc n) xs

unfoldable pub places_of : List Label → List LabelNo
places_of ls = insert_all (replicate label_places (label_no 0)) 1 ls

-- The table that holds the labels; "Unused places hold zero."
abbrev pub table_of : List Label → LabelTable
table_of ls = record { labels = pad no_label max_log_labels ls; places = places_of ls; count = length ls }
