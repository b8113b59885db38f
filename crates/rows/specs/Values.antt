-- How the code works, not what it means.
-- What the table of rows holds, by the start, the finish and the label number of each rank: a rank is a place in the order in which
-- runs finish. A rank that no finished run has holds 0 for all three.
use Rattle.std.specs.Prelude.{ℕ, ◌+◌, ◌-◌, ◌/◌, ◌%◌, ◌<◌, ◌≤◌, ◌≡◌, Bool, false, not, ◌&&◌, cond, List, eqb, ltb, length, get_or}
use Rattle.lists.specs.Limits.{max_runs, max_lines, max_log_labels}
use Rattle.sets.specs.Sets.{mem}
use Rattle.relations.specs.Relation.{rising?}
use Rattle.logic.specs.Shown.{same_number}
use Rattle.set_table.specs.Rows.{row}
use Rattle.rank_tables.specs.Tables.{line_words, label_words, Earlier, Numbered, FitsBelow}
use Rattle.row_table.specs.Rows.{label_row, label_rows}

-- "before: finish of a < start of b. overlaps: start a < start b < finish a < finish b. includes: start a < start b <
-- finish b < finish a."; 0 before, 1 overlaps, 2 includes
unfoldable pub holds : ℕ → ℕ → ℕ → ℕ → ℕ → Bool
holds k s f t g = cond (eqb k 0) (ltb f t) (cond (eqb k 1) (rising? s t f g) (rising? s t g f))

-- ── the relations by the sets of ranks that start or finish before each line ──
-- what the first set has and neither of the others
abbrev pub less : Bool → Bool → Bool → Bool
less a b c = (a && not b) && not c

unfoldable pub seconds_test : ℕ → ℕ → ℕ → List ℕ → List ℕ → ℕ → Bool
seconds_test k s f begun ended j =
    cond (eqb k 0) (less (ltb j max_runs) (mem (row begun (f + 1)) j) (mem (row ended 1) j))
    (cond (eqb k 1) (less (mem (row begun f) j) (mem (row begun (s + 1)) j) (mem (row ended (f + 1)) j))
    (less (mem (row ended f) j) (mem (row begun (s + 1)) j) (mem (row ended 1) j)))

unfoldable pub firsts_test : ℕ → ℕ → ℕ → List ℕ → List ℕ → ℕ → Bool
firsts_test k s f begun ended j =
    cond (eqb k 0) (mem (row ended s) j && not (mem (row ended 1) j))
    (cond (eqb k 1) ((mem (row begun s) j && mem (row ended f) j) && not (mem (row ended (s + 1)) j))
    (mem (row begun s) j && not (mem (row ended (f + 1)) j)))

-- the row of the ranks with a label, among those after the rows with a rank given: that of "same" with itself
abbrev pub any_label : ℕ
any_label = 67

-- row p of those after the rows with a rank given
unfoldable pub listed_test : List ℕ → ℕ → List ℕ → ℕ → ℕ → Bool
listed_test wanted labels labelled p j =
    cond (eqb p any_label) (ltb j max_runs && not (mem (row labelled 0) j))
    (cond (ltb p labels) (not (eqb (get_or wanted p 0) 0) && mem (row labelled (get_or wanted p 0)) j) false)

-- the numbers of the labels of a rule file in a record
pub record Wanted (wanted : List ℕ) (labels : ℕ) : Type 0 where
  pub few : labels ≤ label_rows
  pub long : labels ≤ length wanted
  pub low : (p : ℕ) → p < labels → get_or wanted p 0 ≤ max_log_labels

-- ── the rows ──
module _ (start finish number : List ℕ) where
  -- relation k of the ranks i and j, of which both are to be finished; 3 is "same: some label belongs to both"
  unfoldable pub pair_value : ℕ → ℕ → ℕ → Bool
  pair_value k i j =
      cond (eqb k 3) (same_number (get_or number i 0) (get_or number j 0))
      (ltb 0 (get_or finish i 0) && (ltb 0 (get_or finish j 0) && holds k (get_or start i 0) (get_or finish i 0) (get_or start j 0) (get_or finish j 0)))

  -- rows below label_row, by the relation and the rank given: the first of the pair, or the second
  unfoldable pub given_value : ℕ → ℕ → ℕ → Bool
  given_value q i j = cond (ltb q 4) (pair_value (q % 4) i j) (pair_value (q % 4) j i)

  -- rows from label_row on: the labels of the rule file, by their numbers, and the relations of a rank with itself
  unfoldable pub listed_value : List ℕ → ℕ → ℕ → ℕ → Bool
  listed_value wanted labels p j =
      cond (ltb p label_rows) (cond (ltb p labels) (same_number (get_or number j 0) (get_or wanted p 0)) false) (pair_value (p - label_rows) j j)

  unfoldable pub row_value : List ℕ → ℕ → ℕ → ℕ → Bool
  row_value wanted labels r j = cond (ltb r label_row) (given_value (r / max_runs) (r % max_runs) j) (listed_value wanted labels (r - label_row) j)

  -- "At most 128 runs and 64 labels, hence 256 lines"; a finished run starts before it finishes
  pub record Ranks : Type 0 where
    pub starts : FitsBelow start max_lines
    pub finishes : FitsBelow finish max_lines
    pub numbers : FitsBelow number max_log_labels
    pub forward : (i : ℕ) → i < max_runs → 0 < get_or finish i 0 → get_or start i 0 < get_or finish i 0

-- the sets of ranks that start before each line, that finish before each line, and that have each label
pub record Tables (start finish number begun ended labelled : List ℕ) : Type 0 where
  pub long-begun : length begun ≡ line_words
  pub long-ended : length ended ≡ line_words
  pub long-labelled : length labelled ≡ label_words
  pub begun_are : Earlier start begun
  pub ended_are : Earlier finish ended
  pub labelled_are : Numbered number labelled

-- the first rows hold their values, and the others are as they were
pub record Filled (start finish number wanted : List ℕ) (labels : ℕ) (old new : List ℕ) (rows : ℕ) : Type 0 where
  pub long : length new ≡ length old
  pub value : (r j : ℕ) → r < rows → j < max_runs → mem (row new r) j ≡ row_value start finish number wanted labels r j
  pub after : (r : ℕ) → rows ≤ r → row new r ≡ row old r
