-- How the code works, not what it means.
-- The table of rows: for each relation and each run, the set of runs so related to it, and for each label the set of its runs.
-- A row is two words. With the relations 0 before, 1 overlaps, 2 includes and 3 same:
--   row max_runs k + i                the runs j such that relation k holds of i and j
--   row second_given + max_runs k + j  the runs i such that relation k holds of i and j
--   row label_row + p                 the runs with the label at place p of the rule file
--   row self_row + k                  the runs of which relation k holds with themselves
use Rattle.std.specs.Prelude.{ℕ, ◌+◌, ◌*◌, ◌-◌, ◌<◌, ◌≡◌, Bool, cond, List, eqb}
use Rattle.lists.specs.Limits.{max_runs}
use Rattle.sets.specs.Sets.{mem}
use Rattle.set_table.specs.Rows.{row}
use Rattle.rules.specs.declared.Node.{Node}
use Rattle.rules.specs.Parts.{label_count}
use Rattle.rules.specs.Labels.{label_bytes}
use Rattle.rules.specs.Table.{pairing_of}
use Rattle.logic.specs.Satisfies.{Binding}
use Rattle.logic.specs.Model.{Model}

-- the first row with the second run given
abbrev pub second_given : ℕ
second_given = 512

-- the row of the first label, and how many labels have a row
abbrev pub label_row : ℕ
label_row = 1024

abbrev pub label_rows : ℕ
label_rows = 64

-- the first row of runs that are related to themselves
abbrev pub self_row : ℕ
self_row = 1088

-- all rows, and the words that they take
abbrev pub table_rows : ℕ
table_rows = 1092

abbrev pub table_words : ℕ
table_words = 2184

-- relation k of runs i and j; node kinds 5 to 8 name relations 0 to 3
unfoldable pub pair_of : Model → ℕ → ℕ → ℕ → Bool
pair_of M k i j = M.paired (pairing_of (k + 5)) i j

-- a node of kinds 4 to 8
unfoldable pub atom_of : Model → List ℕ → Node → Binding → Bool
atom_of M file x ρ = cond (eqb x.kind 4) (M.labelled (ρ x.a) (label_bytes file x.b)) (pair_of M (x.kind - 5) (ρ x.a) (ρ x.b))

-- the rows say what the model of the ranks has, for the labels of the rule file
pub record RowsOf (table file : List ℕ) (runs : ℕ) (M : Model) : Type 0 where
  pub runs_are : M.runs ≡ runs
  pub first_given : (k i j : ℕ) → k < 4 → i < max_runs → j < max_runs → mem (row table (max_runs * k + i)) j ≡ pair_of M k i j
  pub second_given_lem : (k i j : ℕ) → k < 4 → i < max_runs → j < max_runs → mem (row table (second_given + max_runs * k + j)) i ≡ pair_of M k i j
  pub labels_are : (p i : ℕ) → p < label_count file → i < max_runs → mem (row table (label_row + p)) i ≡ M.labelled i (label_bytes file p)
  pub with_itself : (k i : ℕ) → k < 4 → i < max_runs → mem (row table (self_row + k)) i ≡ pair_of M k i i
