-- How the code works, not what it means.
-- The ranks by a value that each of them has: its start, its finish or its label number.
use Rattle.std.specs.Prelude.{ℕ, ◌<◌, ◌≤◌, ◌≡◌, ◌&&◌, ◌||◌, List, eqb, ltb, length, get_or}
use Rattle.lists.specs.Lists.{any_below}
use Rattle.lists.specs.Limits.{max_runs, max_log_labels}
use Rattle.sets.specs.Sets.{mem}
use Rattle.set_table.specs.Rows.{row}

-- each row v gains the ranks with the value v
pub record Gained (values old new : List ℕ) (ranks : ℕ) : Type 0 where
  pub long : length new ≡ length old
  pub gains : (v j : ℕ) → mem (row new v) j ≡ (mem (row old v) j || (ltb j ranks && eqb (get_or values j 0) v))

-- each row is what the rows before it had
pub record Spread (old new : List ℕ) (rows : ℕ) : Type 0 where
  pub long : length new ≡ length old
  pub before : (r j : ℕ) → r < rows → mem (row new r) j ≡ any_below r (λ i. mem (row old i) j)

-- a row for each line, for place 0 and for the place after the last line, and the words that they take
abbrev pub line_rows : ℕ
line_rows = 258

abbrev pub line_words : ℕ
line_words = 516

-- the words of a row for each label, and of row 0 for none
abbrev pub label_words : ℕ
label_words = 130

-- row l has the ranks whose value is below l
abbrev pub Earlier : List ℕ → List ℕ → Type 0
Earlier values table = (l j : ℕ) → l < line_rows → j < max_runs → mem (row table l) j ≡ ltb (get_or values j 0) l

-- row v has the ranks whose value is v
abbrev pub Numbered : List ℕ → List ℕ → Type 0
Numbered values table = (v j : ℕ) → v ≤ max_log_labels → j < max_runs → mem (row table v) j ≡ eqb (get_or values j 0) v

-- a value for each rank, none above the limit
pub record FitsBelow (values : List ℕ) (limit : ℕ) : Type 0 where
  pub long : max_runs ≤ length values
  pub low : (i : ℕ) → i < max_runs → get_or values i 0 ≤ limit
