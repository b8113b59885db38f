-- How the code works, not what it means.
-- What a search by rows is handed: the rule file with its table of nodes, the table of rows, and the bindings.
use Rattle.std.specs.Prelude.{ℕ, ◌≤◌, ◌≡◌, List, length}
use Rattle.lists.specs.Limits.{max_runs}
use Rattle.rules.specs.Parts.{label_count}
use Rattle.rules.specs.Table.{Good, formula_at}
use Rattle.shape.specs.Shape.{height}
use Rattle.row_table.specs.declared.Bindings.{Bindings}
use Rattle.row_table.specs.Truth.{each}
use Rattle.row_table.specs.Rows.{label_rows, table_words}
use Rattle.row_table.specs.Ranks.{binding}
use Rattle.matrix.specs.Matrix.{each_row}

-- All that evaluating node n in a matrix needs. No "some" lies inside another in it, and none at all where a variable stands for
-- each run already.
pub record RowsReady (file : List ℕ) (p : ℕ) (table : List ℕ) (runs n : ℕ) (b : Bindings) : Type 0 where
  pub good : Good file p n
  pub table_long : table_words ≤ length table
  pub labels_few : label_count file ≤ label_rows
  pub runs_few : runs ≤ max_runs
  pub in_range_lem : (v : ℕ) → binding b v ≤ each_row
  pub low : height (formula_at file p n) ≤ 1
  pub alone : (v : ℕ) → binding b v ≡ each → height (formula_at file p n) ≡ 0
