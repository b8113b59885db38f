-- How the code works, not what it means: the ranks that variables stand for.
use Rattle.std.specs.Prelude.{ℕ, ◌≤◌, get_or}
use Rattle.logic.specs.Satisfies.{Binding}
use Rattle.row_table.specs.declared.Rank.{Rank}
use Rattle.row_table.specs.declared.Bindings.{Bindings}
use Rattle.row_table.specs.Truth.{each}

abbrev pub rank : ℕ → Rank
rank r = record { 0 = r }

-- the rank that each variable stands for, as a binding of the logic
abbrev pub binding : Bindings → Binding
binding b v = (get_or b.run v (rank 0)).0

-- each variable stands for a rank, or is marked for each run
abbrev pub InRange : Bindings → Type 0
InRange b = (v : ℕ) → binding b v ≤ each
