-- The loop's invariant: the first i runs of the array are those of the form.
use mathlib.Core.Path.{refl}
use native.Mathlib.Omega.{arith}
use borrow.Author.Rules.{rules}
use Rattle.record_bytes.specs.Form.{runs_from}
use Rattle.record_bytes.proofs.Joined.{none_filled, filled_next, filled_all}
use Rattle.record_bytes.proofs.read.runs_from.Goals as goal

pub loop-i-init : goal.loop-i-init
loop-i-init c = (refl, none_filled _)

pub loop-i-preserved : goal.loop-i-preserved
loop-i-preserved c = filled_next _ 128 c.loop-i.run-items c.loop-i.i _ c.loop-i.invariant (search rules) c.run_at.ensures

pub returns : goal.returns
unfolding runs_from
returns c = filled_all _ 128 c.loop-i.run-items c.loop-i.i c.loop-i.invariant (omega arith)
