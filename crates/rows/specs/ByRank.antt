-- How the code works, not what it means.
-- Start, finish and label number of each rank, and what the call that fills the table promises.
use Rattle.std.specs.Prelude.{ℕ, ◌<◌, ◌≤◌, ◌≡◌, cond, List, ltb, get_or}
use Rattle.lists.specs.Limits.{max_runs, max_lines, max_log_labels}
use Rattle.trace.specs.declared.Run.{Run}
use Rattle.trace.specs.declared.RunTable.{RunTable}
use Rattle.trace.specs.Trace.{Trace, no_run, begin_line, end_line, Accepted}
use Rattle.trace.specs.Record.{record_of}
use Rattle.rules.specs.Parts.{label_count}
use Rattle.rules.specs.Labels.{label_bytes}
use Rattle.logic.specs.Shown.{number_for}
use Rattle.order.specs.declared.Order.{Order}
use Rattle.order.specs.Order.{order_to}
use Rattle.order.specs.Marks.{OrderHeld}
use Rattle.row_table.specs.Rows.{table_rows, RowsOf}
use Rattle.rows.specs.Values.{Filled}
use Rattle.rows.specs.RankModel.{rank_model}

-- the run of rank i, among the first k ranks; no run for the others
unfoldable pub ranked_to : RunTable → Order → ℕ → ℕ → Run
ranked_to t o k i = cond (ltb i k) (get_or t.list (get_or o.run i 0) no_run) no_run

-- "At most 128 runs and 64 labels, hence 256 lines": what every record of an accepted log keeps to, with the order of its runs
pub record OrderFits (t : RunTable) (o : Order) : Type 0 where
  pub ranks : o.count ≤ max_runs
  pub run_low : (i : ℕ) → i < o.count → get_or o.run i 0 < max_runs
  pub start_low : (k : ℕ) → begin_line (get_or t.list k no_run) ≤ max_lines
  pub finish_low : (k : ℕ) → end_line (get_or t.list k no_run) ≤ max_lines
  pub label_low : (k : ℕ) → (get_or t.list k no_run).label.0 ≤ max_log_labels
  pub forward : (k : ℕ) → 0 < end_line (get_or t.list k no_run) → begin_line (get_or t.list k no_run) < end_line (get_or t.list k no_run)

-- three numbers for each rank: of the first k ranks those of their runs, 0 for the others
pub record ByRank (t : RunTable) (o : Order) (k : ℕ) (starts finishes numbers : List ℕ) : Type 0 where
  pub start_at : (i : ℕ) → get_or starts i 0 ≡ begin_line (ranked_to t o k i)
  pub finish_at : (i : ℕ) → get_or finishes i 0 ≡ end_line (ranked_to t o k i)
  pub number_at_lem : (i : ℕ) → get_or numbers i 0 ≡ (ranked_to t o k i).label.0

-- The table holds the rows of the ranks: by the numbers of each rank, and by what they mean for the record of an accepted log, the
-- order in which its runs finish and the numbers of a rule file's labels in it.
pub record RowsFilled (t : RunTable) (o : Order) (wanted : List ℕ) (labels : ℕ) (old new : List ℕ) : Type 0 where
  pub starts : List ℕ
  pub finishes : List ℕ
  pub numbers : List ℕ
  pub by_rank : ByRank t o o.count starts finishes numbers
  pub filled : Filled starts finishes numbers wanted labels old new table_rows
  pub meaning : (log file : List ℕ) (s : Trace) → Accepted log s → t ≡ (record_of s).runs → OrderHeld (order_to s.runs) s.lines o → labels ≡ label_count file
      → ((p : ℕ) → p < label_count file → get_or wanted p 0 ≡ number_for s.labels (label_bytes file p)) → RowsOf new file o.count (rank_model s)
