-- How the code works, not what it means.
-- The finished runs of a trace by their ranks, as the logic sees them. "A run is finished once
-- its end line is among the lines read":
-- a rank is a place in the order in which runs finish.
use Rattle.std.specs.Prelude.{ℕ, length, get_or}
use Rattle.lists.specs.Limits.{max_runs}
use Rattle.trace.specs.Trace.{Trace}
use Rattle.relations.specs.Runs.{finished?}
use Rattle.logic.specs.Satisfies.{between}
use Rattle.logic.specs.Model.{Model, has_label?, holds_between?}
use Rattle.order.specs.Order.{finish_order}

-- the number of the run of rank i; max_runs, which is no run's number, where no run has the rank
unfoldable pub rank_run : Trace → ℕ → ℕ
rank_run t i = get_or (finish_order t) i max_runs

abbrev pub rank_model : Trace → Model
rank_model t =
    record {
      runs = length (finish_order t);
      done = λ i. finished? t (rank_run t i);
      labelled = λ i l. has_label? t (rank_run t i) l;
      paired = λ p i j. holds_between? (between p) t (rank_run t i) (rank_run t j);
    }
