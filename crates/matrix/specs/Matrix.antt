-- How the code works, not what it means.
-- A matrix: a row for each run, which is a set of moments. One variable is marked to stand in row k for run k.
use Rattle.std.specs.Prelude.{ℕ, cond, eqb}
use Rattle.logic.specs.Satisfies.{Binding}
use Rattle.row_table.specs.Truth.{each}

-- the mark of a variable that stands in row k for run k
abbrev pub each_row : ℕ
each_row = 129

-- what x stands for in row k
abbrev pub in_row : ℕ → ℕ → ℕ
in_row x k = cond (eqb x each_row) k x

-- the binding of row k
abbrev pub rowed : Binding → ℕ → Binding
rowed ρ k v = in_row (ρ v) k

-- the mark for each run in place of the mark of rows
abbrev pub as_each : ℕ → ℕ
as_each x = cond (eqb x each_row) each x

-- the words of a matrix: a row of two for each run
abbrev pub matrix_words : ℕ
matrix_words = 256
