-- How the code works, not what it means.
-- Label numbers in a record, which stand for labels.
use Rattle.std.specs.Prelude.{ℕ, suc, Bool, not, ◌&&◌, cond, List, eqb, ltb, length}
use Rattle.labels.specs.declared.Label.{Label}
use Rattle.labels.specs.declared.Slot.{Slot}
use Rattle.labels.specs.declared.Slot.TheVariants.{Seen, Free, Full}
use Rattle.labels.specs.Label.{label_of}
use Rattle.labels.specs.Table.{index_of}

-- the number that a search for a label finds: 0 where the label was never seen
abbrev pub slot_number : Slot → ℕ
slot_number (Seen n) = n.0
slot_number (Free p) = 0
slot_number Full = 0

-- the number of the label with the bytes l among the labels: 0 where it is not among them
unfoldable pub number_for : List Label → List ℕ → ℕ
number_for ls l = cond (ltb (index_of ls (label_of l)) (length ls)) (suc (index_of ls (label_of l))) 0

-- label numbers that say the same label: "Two runs without a label are not the same"
abbrev pub same_number : ℕ → ℕ → Bool
same_number m n = eqb m n && not (eqb m 0)
