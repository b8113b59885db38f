-- The runs before this one do not serve: each has no rank, is left out by the evaluator, or was asked for.
use Prim.Native.Nat.{ℕ, ◌<◌}
use mathlib.Core.Path.{◌≡◌}
use mathlib.Core.Bool.{false}
use Rattle.rules.specs.Table.{formula_at}
use Rattle.logic.specs.Model.{Model}
use Rattle.row_table.specs.Rows.{RowsOf}
use Rattle.row_table.specs.Ranks.{binding}
use Rattle.slip_search.specs.First.{serves, of_ranks}
use Rattle.slip_search.proofs.first_run.Given as goal

abbrev pub invariant-loop-k : goal.invariant-loop-k
invariant-loop-k l = (M : Model) → RowsOf l.table l.file l.runs M → (j : ℕ) → j < l.k → serves (of_ranks M l.ranks l.runs l.moment) (formula_at l.file l.first l.child) (binding l.b) l.v j ≡ false
