-- How the code works, not what it means.
-- What a refresh of one run's bytes makes of a work area.
use Rattle.std.specs.Prelude.{ℕ, ◌≤◌, ◌≡◌, List, ltb, length, get_or}
use Rattle.trace.specs.declared.Run.{Run}
use Rattle.trace.specs.declared.Record.{Record}
use Rattle.trace.specs.Trace.{Trace, no_run}
use Rattle.trace.specs.Steps.{held}
use Rattle.pairs.specs.declared.Layout.{Layout}
use Rattle.pairs.specs.Layout.{work_size, place}
use Rattle.pairs.specs.Pairs.{pair_byte, work_of, held_trace}
use Rattle.pairs.specs.Code.{Stored, OfRun}

-- two lists of runs that differ at place z at most: at each other place both have a run or neither, and it is the same
pub record Beside (z : ℕ) (rs qs : List Run) : Type 0 where
  pub has : (k : ℕ) → (k ≡ z → ⊥) → ltb k (length rs) ≡ ltb k (length qs)
  pub run : (k : ℕ) → (k ≡ z → ⊥) → get_or rs k no_run ≡ get_or qs k no_run

-- The area w becomes v: by its stores; where w has the bytes of runs that differ at z at most, v has those of the record's runs,
-- and goes on as w does; and no byte past the layout's size changes, whatever w has.
pub record Refreshes (lay : Layout) (r : Record) (z : ℕ) (w v : List ℕ) : Type 0 where
  pub stored : Stored (place lay) (pair_byte (held r.runs)) (OfRun z r.runs.count) w v
  pub meaning : (t : Trace) (u : List ℕ) → Beside z t.runs (held r.runs) → w ≡ work_of lay t u → v ≡ work_of lay (held_trace r) u
  pub rest : (k : ℕ) → work_size lay ≤ k → get_or v k 0 ≡ get_or w k 0
