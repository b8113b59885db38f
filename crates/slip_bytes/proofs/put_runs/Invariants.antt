-- The first runs stand in the first bytes, and the other bytes are as they were.
use mathlib.Core.Path.{◌≡◌}
use mathlib.Core.List.{◌++◌}
use lib.ListN.{drop}
use Rattle.slip_form.specs.Slips.{numbers}
use Rattle.slip_bytes.proofs.put_runs.Given as goal

abbrev pub invariant-loop-i : goal.invariant-loop-i
invariant-loop-i l = l.bytes ≡ numbers l.i l.fn.x.run ++ drop l.i l.initial.bytes
