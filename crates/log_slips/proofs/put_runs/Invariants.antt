-- The loop's invariant: the runs passed are written, each with at most 4 bytes.
use Prim.Native.Nat.{◌+◌, ◌*◌, ◌≤◌}
use mathlib.Core.Path.{◌≡◌}
use lib.ListN.{length}
use Rattle.text_pieces.specs.Writing.{Writes}
use Rattle.log_slips.proofs.Runs.{runs_to}
use Rattle.log_slips.proofs.put_runs.Given as goal

abbrev pub invariant-loop-run : goal.invariant-loop-run
invariant-loop-run l =
    (l.end ≤ l.at + 4 * l.run-index) × (length l.text ≡ length l.initial.text) × Writes (runs_to l.run-items l.run-index) l.initial.text l.at l.text l.end
