-- A table of zeros is the table of rows of no runs.
use mathlib.Core.Path.{◌∙◌}
use native.Mathlib.Omega.{arith}
use Rattle.timeline.specs.Root.{no_runs}
use Rattle.timeline.proofs.Root.{zero_rows}
use Rattle.timeline.proofs.before_first.Goals as goal

pub returns : goal.returns
returns c = c.has.ensures ∙ c.true_moments-s.ensures no_runs (zero_rows 2184 _) 0 (omega arith) (omega arith) (λ _. 0)
