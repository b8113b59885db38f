-- How the code works, not what it means: the search through the places and the table with one label more, by the table's own values, and
-- what both amount to in the table of a list.
use Rattle.std.specs.Prelude.{ℕ, zero, suc, ◌+◌, ◌%◌, ◌<◌, ◌≤◌, ◌≡◌, List, [], ◌∷◌, ◌++◌, cond, length, set, eqb, ltb}
use Rattle.lists.specs.Limits.{max_log_labels}
use Rattle.labels.specs.declared.Label.{Label}
use Rattle.labels.specs.declared.LabelTable.{LabelTable}
use Rattle.labels.specs.declared.Slot.{Slot}
use Rattle.labels.specs.declared.Slot.TheVariants.{Seen, Free, Full}
use Rattle.labels.specs.Label.{label_no, equal_label?}
use Rattle.labels.specs.Table.{index_of, label_at, Distinct, label_places, first_place, place_at, free_place, places_of, table_of}

-- the search through any places, whatever they hold: from p on, among k
unfoldable pub probe : (ℕ → ℕ) → (ℕ → Label) → Label → ℕ → ℕ → Slot
probe pl lb x p zero = Full
probe pl lb x p (suc k) =
    let r = probe pl lb x ((p + 1) % label_places) k in
    cond (eqb (pl p) 0) (Free p) (cond (equal_label? (lb (pl p)) x) (Seen (label_no (pl p))) r)

abbrev pub lookup : LabelTable → Label → Slot
lookup t x = probe (place_at t.places) (label_at t.labels) x (first_place x) label_places

-- what is to be found: the label's number if it is in the list, otherwise the empty place where it would go
unfoldable pub slot_of : List Label → Label → Slot
slot_of ls x = cond (ltb (index_of ls x) (length ls)) (Seen (label_no (suc (index_of ls x)))) (Free (free_place (places_of ls) x))

-- no place names a label past the 64th
unfoldable pub Readable : LabelTable → Type 0
Readable t = (p : ℕ) → place_at t.places p ≤ max_log_labels

-- what a search answers, in any table; and in the table of a list of at most 64 different labels
pub record FindsLabel (t : LabelTable) (x : Label) (s : Slot) : Type 0 where
  pub answer : s ≡ lookup t x
  pub meaning : (ls : List Label) → Distinct ls → length ls ≤ max_log_labels → t ≡ table_of ls → s ≡ slot_of ls x

abbrev pub put_label : LabelTable → Label → ℕ → LabelTable
put_label t x p =
    record {
      labels = set t.labels t.count x;
      places = set t.places p (label_no (t.count + 1));
      count = t.count + 1;
    }

-- what adding a label answers, in any table; and at the place that a search found, in the table of a list
pub record AddsLabel (t : LabelTable) (x : Label) (p : ℕ) (q : LabelTable) : Type 0 where
  pub answer : q ≡ put_label t x p
  pub meaning : (ls : List Label) → length ls < max_log_labels → t ≡ table_of ls → p ≡ free_place (places_of ls) x → q ≡ table_of (ls ++ (x ∷ []))
