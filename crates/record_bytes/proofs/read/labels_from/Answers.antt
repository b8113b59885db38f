-- The loop's invariant: the first i labels of the array are those of the form.
use mathlib.Core.Path.{refl}
use native.Mathlib.Omega.{arith}
use borrow.Author.Rules.{rules}
use Rattle.record_bytes.specs.Form.{labels_from}
use Rattle.record_bytes.proofs.Joined.{none_filled, filled_next, filled_all}
use Rattle.record_bytes.proofs.read.labels_from.Goals as goal

pub loop-i-init : goal.loop-i-init
loop-i-init c = (refl, none_filled _)

pub loop-i-preserved : goal.loop-i-preserved
loop-i-preserved c = filled_next _ 64 c.loop-i.label-items c.loop-i.i _ c.loop-i.invariant (search rules) c.label_at.ensures

pub returns : goal.returns
unfolding labels_from
returns c = filled_all _ 64 c.loop-i.label-items c.loop-i.i c.loop-i.invariant (omega arith)
