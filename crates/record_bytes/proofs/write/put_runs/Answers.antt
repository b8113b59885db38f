-- The loop's invariant: the buffer is what it was, with the bytes of the first i runs stored from the first run's place on.
use mathlib.Core.Path.{◌≡◌, refl}
use native.Mathlib.Omega.{arith}
use Rattle.record_bytes.specs.Form.{runs_bytes}
use Rattle.record_bytes.proofs.Joined.{joined_none, joined_next}
use Rattle.record_bytes.proofs.Form.{run_long}
use Rattle.record_bytes.proofs.write.put_runs.Goals as goal

pub loop-i-init : goal.loop-i-init
loop-i-init c = joined_none _ _ _

pub loop-i-preserved : goal.loop-i-preserved
loop-i-preserved c = joined_next 7 _ (λ k. run_long _) _ _ _ 4 c.loop-i.i _ _ c.loop-i.invariant refl refl c.put_run.ensures

pub returns : goal.returns
unfolding runs_bytes
returns c = let e : c.loop-i.i ≡ 128 = omega arith in
    rw e at c.loop-i.invariant
