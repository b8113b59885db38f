-- The loop's invariant: the first i places of the array are those of the form.
use mathlib.Core.Path.{refl}
use native.Mathlib.Omega.{arith}
use borrow.Author.Rules.{rules}
use Rattle.record_bytes.specs.Form.{places_from}
use Rattle.record_bytes.proofs.Joined.{none_filled, filled_next, filled_all}
use Rattle.record_bytes.proofs.read.places_from.Goals as goal

pub loop-i-init : goal.loop-i-init
loop-i-init c = (refl, none_filled _)

pub loop-i-preserved : goal.loop-i-preserved
loop-i-preserved c = filled_next _ 128 c.loop-i.place-items c.loop-i.i _ c.loop-i.invariant (search rules) refl

pub returns : goal.returns
unfolding places_from
returns c = filled_all _ 128 c.loop-i.place-items c.loop-i.i c.loop-i.invariant (omega arith)
