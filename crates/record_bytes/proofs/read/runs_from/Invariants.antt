-- The loop's invariant: the first i runs of the array are those of the form.
use Rattle.record_bytes.specs.Form.{run_from}
use Rattle.record_bytes.proofs.Joined.{Filled}
use Rattle.record_bytes.proofs.read.runs_from.Given as goal

abbrev pub invariant-loop-i : goal.invariant-loop-i
invariant-loop-i l = Filled (run_from l.bytes) 128 l.run-items l.i
