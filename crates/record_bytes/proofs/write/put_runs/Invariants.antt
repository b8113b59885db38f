-- The loop's invariant: the buffer is what it was, with the bytes of the first i runs stored from the first run's place on.
use mathlib.Core.Path.{◌≡◌}
use lib.ListN.{get_or}
use Rattle.trace.specs.Trace.{no_run}
use Rattle.record_bytes.specs.Joined.{joined, stored}
use Rattle.record_bytes.specs.Form.{runs_at, run_bytes}
use Rattle.record_bytes.proofs.write.put_runs.Given as goal

abbrev pub invariant-loop-i : goal.invariant-loop-i
invariant-loop-i l =
    l.out ≡ stored l.initial.out runs_at (joined l.i (λ k. run_bytes (get_or l.run-items k no_run)))
