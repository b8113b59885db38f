-- What is handed in: a record and a work area that a sequence of accepted lines leaves, or that none leaves (21).
use Rattle.std.specs.Prelude.{ℕ, ◌≤◌, ◌≡◌, List, length}
use Rattle.std.proofs.Math.Option.{Option, none, some}
use Rattle.trace.specs.declared.Record.{Record}
use Rattle.trace.specs.Trace.{Trace}
use Rattle.pairs.specs.declared.Layout.{Layout}
use Rattle.pairs.specs.Layout.{work_size}
use Rattle.rules.specs.declared.Rule.{Rule}
use Rattle.std.specs.Prelude.{Ok}
use Rattle.rules.specs.Rules.{rule_of}
use Rattle.reading.specs.Left.{Left, Unknown}

-- "21 no sequence of accepted lines leaves the record handed in, or the pair bytes are not that record's": the trace of the lines
-- that leave them, or none
abbrev pub HandedBy : Layout → Record → List ℕ → Option Trace → Type 0
HandedBy lay r w none = Unknown lay r w
HandedBy lay r w (some t) = (log : List ℕ) × Left lay log t r w

-- the work area is long enough and the rule is taken: only then is 21 looked for
pub record Reached (lay : Layout) (file w : List ℕ) : Type 0 where
  pub long : work_size lay ≤ length w
  pub rule : Rule
  pub taken : rule_of file ≡ Ok rule
