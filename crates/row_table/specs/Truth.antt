-- How the code works, not what it means.
-- The logic at each moment. Finished runs are numbered by rank, in the order in which they finished, and moment m is the one at which
-- the runs of rank 0 to m are finished. Positions, relations and labels of finished runs never change, so that a model says these
-- once, for all moments. Before the first run finishes there is no moment; there every "some" is false.
use Rattle.std.specs.Prelude.{ℕ, ◌<◌, ◌≡◌, Bool, false, ◌&&◌, cond, eqb, leb}
use Rattle.lists.specs.Limits.{max_runs}
use Rattle.sets.specs.Sets.{mem}
use Rattle.sets.specs.declared.RunSet.{RunSet}
use Rattle.rules.specs.Formula.{Formula}
use Rattle.logic.specs.Satisfies.{Binding, bind}
use Rattle.logic.specs.Model.{Model, eval}

-- the model of ranks at moment m: "A run is finished once its end line is among the lines read"
abbrev pub at_moment : Model → ℕ → Model
at_moment M m = record { runs = M.runs; done = λ r. leb r m; labelled = M.labelled; paired = M.paired }

-- the truth value at moment m
abbrev pub truth : Model → Formula → Binding → ℕ → Bool
truth M f ρ m = eval (at_moment M m) ρ f

-- ── each run at once ──
-- the mark of a variable that stands for each run: no rank is so high
abbrev pub each : ℕ
each = max_runs

-- the run that x stands for where the mark stands for run j
abbrev pub stands_for : ℕ → ℕ → ℕ
stands_for x j = cond (eqb x each) j x

-- the binding in which each marked variable stands for run j
abbrev pub at : Binding → ℕ → Binding
at ρ j v = stands_for (ρ v) j

-- no variable is marked
abbrev pub Fixed : Binding → Type 0
Fixed ρ = (v : ℕ) → ρ v < each

-- r has the moments of dom at which f is true, a marked variable standing at moment j for run j
abbrev pub TrueAt : Model → Formula → Binding → RunSet → RunSet → Type 0
TrueAt M f ρ dom r = (j : ℕ) → j < max_runs → mem r j ≡ (mem dom j && truth M f (at ρ j) j)

-- with variable v at a run that r lacks, f is true at no moment
abbrev pub FalseWithout : Model → Formula → Binding → ℕ → RunSet → Type 0
FalseWithout M f ρ v r = (i : ℕ) → i < M.runs → mem r i ≡ false → (j m : ℕ) → truth M f (bind (at ρ j) v i) m ≡ false
