-- How the code works, not what it means.
-- The inner step, on a record and a work area that are known to be good. The calls on one line
-- all end in it.
use Rattle.std.specs.Prelude.{ℕ, ◌≡◌, List}
use Rattle.trace.specs.declared.Record.{Record}
use Rattle.trace.specs.Trace.{Trace}
use Rattle.pairs.specs.declared.Layout.{Layout}
use Rattle.rules.specs.declared.Rule.{Rule}
use Rattle.reading.specs.Left.{Left}
use Rattle.single.specs.declared.Checked.{Checked}
use Rattle.single.specs.Line.{advance_of}

-- a line on a record and a work area: the answer and the work area, for every log that leaves them
abbrev pub Advances : Layout → List ℕ → Rule → Record → List ℕ → List ℕ → Checked → List ℕ → Type 0
Advances lay file x r w line c w' =
    (log : List ℕ) (t : Trace) → Left lay log t r w → ◌≡◌ {A = Checked × List ℕ} (c, w') (advance_of lay file x t w line)
