-- How the code works, not what it means.
-- What the evaluator is handed: the rule file with its table of nodes and their shapes, the table of rows, and the bindings.
use Rattle.std.specs.Prelude.{ℕ, ◌≤◌, List, length}
use Rattle.lists.specs.Limits.{max_runs}
use Rattle.rules.specs.Parts.{label_count}
use Rattle.rules.specs.Table.{Good}
use Rattle.row_table.specs.declared.Bindings.{Bindings}
use Rattle.row_table.specs.Rows.{label_rows, table_words}
use Rattle.row_table.specs.Ranks.{InRange}
use Rattle.moments.specs.Shape.{Heights, Frees}

-- all that evaluating node n needs
pub record Ready (file : List ℕ) (p : ℕ) (heights frees table : List ℕ) (runs n : ℕ) (b : Bindings) : Type 0 where
  pub good : Good file p n
  pub heights_are : Heights file p n heights
  pub frees_are : Frees file p n frees
  pub table_long : table_words ≤ length table
  pub labels_few : label_count file ≤ label_rows
  pub runs_few : runs ≤ max_runs
  pub in_range_lem : InRange b
