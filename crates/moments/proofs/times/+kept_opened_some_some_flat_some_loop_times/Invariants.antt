-- The evaluator. Each call goes to a smaller node or, at one node, on to the next function in the order some, some_loop, kept,
-- opened or some_flat, times; the search by rows is no part of the cycle. The loop of "some" has tried the runs below r, and each moment
-- of dom at which one of them serves is in got.
use Rattle.std.proofs.Common.{◌+◌, ◌*◌}
use Rattle.rules.specs.Table.{formula_at}
use Rattle.logic.specs.Model.{Model}
use Rattle.row_table.specs.Truth.{FalseWithout}
use Rattle.row_table.specs.Rows.{RowsOf}
use Rattle.row_table.specs.Ranks.{binding}
use Rattle.moments.proofs.Tried.{Tried}
use Rattle.moments.proofs.times.+kept_opened_some_some_flat_some_loop_times.Given as goal

abbrev pub decreases-kept : goal.decreases-kept
decreases-kept l = 5 * l.child + 2

abbrev pub decreases-opened : goal.decreases-opened
decreases-opened l = 5 * l.node + 1

abbrev pub decreases-some : goal.decreases-some
decreases-some l = 5 * l.child + 4

abbrev pub decreases-some_flat : goal.decreases-some_flat
decreases-some_flat l = 5 * l.child + 1

abbrev pub decreases-some_loop : goal.decreases-some_loop
decreases-some_loop l = 5 * l.child + 3

abbrev pub decreases-times : goal.decreases-times
decreases-times l = 5 * l.node

abbrev pub invariant-some_loop-loop-r : goal.invariant-some_loop-loop-r
invariant-some_loop-loop-r l =
    (M : Model) → RowsOf l.table l.file l.runs M → FalseWithout M (formula_at l.file l.first l.child) (binding l.b) l.v l.keep → Tried M (formula_at l.file l.first l.child) (binding l.b) l.v l.dom l.got l.r
