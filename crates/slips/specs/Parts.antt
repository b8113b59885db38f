-- How the code works, not what it means.
-- What the evaluator is handed for a rule and a record, and what its answers are for a rule that has the form.
use Rattle.std.specs.Prelude.{ℕ, ◌≤◌, ◌≡◌, List, length}
use Rattle.lists.specs.Limits.{max_runs}
use Rattle.trace.specs.declared.Record.{Record}
use Rattle.trace.specs.Trace.{Trace, Accepted}
use Rattle.trace.specs.Record.{record_of}
use Rattle.rules.specs.declared.Rule.{Rule}
use Rattle.rules.specs.Rules.{formula_of}
use Rattle.order.specs.declared.Order.{Order}
use Rattle.order.specs.Order.{order_to}
use Rattle.order.specs.Marks.{OrderHeld}
use Rattle.row_table.specs.Rows.{table_words, RowsOf}
use Rattle.rows.specs.RankModel.{rank_model}
use Rattle.timeline.specs.Root.{Shaped}
use Rattle.slip_form.specs.declared.Slip.{Slip}
use Rattle.slip_form.specs.Form.{SlipForm}
use Rattle.slip_form.specs.Slips.{slip_runs}
use Rattle.slip_search.specs.First.{RanksOf}
use Rattle.slips.specs.declared.Prepared.{Prepared}
use Rattle.slips.specs.Answers.{Finding, Passing, FindsIn, ReadsIn}

-- the finished runs of a trace in the order of p's ranks, and their rows
pub record Ranked (file : List ℕ) (u : Trace) (p : Prepared) : Type 0 where
  pub order : Order
  pub held : OrderHeld (order_to u.runs) u.lines order
  pub ranks : RanksOf order p.ranks
  pub count : p.runs ≡ order.count
  pub rows : RowsOf p.table file p.runs (rank_model u)

pub record PreparedFor (file : List ℕ) (x : Rule) (r : Record) (p : Prepared) : Type 0 where
  pub shaped : Shaped file x p.heights p.frees
  pub table_long : table_words ≤ length p.table
  pub ranks_long : length p.ranks ≡ max_runs
  pub runs_few : p.runs ≤ max_runs
  pub ranked : (log : List ℕ) (u : Trace) → Accepted log u → r ≡ record_of u → Ranked file u p

-- the answers for every accepted log that leaves the record
abbrev pub FindsOf : List ℕ → Rule → Record → Finding → Type 0
FindsOf file x r a =
    (s : SlipForm (formula_of file x)) (log : List ℕ) (t : Trace) → Accepted log t → r ≡ record_of t
    → FindsIn t (formula_of file x) s a

abbrev pub ReadsOf : List ℕ → Rule → Record → Slip → Passing → Type 0
ReadsOf file x r y a =
    (s : SlipForm (formula_of file x)) (log : List ℕ) (t : Trace) → Accepted log t → r ≡ record_of t
    → ReadsIn t (formula_of file x) s (slip_runs y) a
