use native.Mathlib.Nat.{le_refl}
use mathlib.Core.Path.{refl}
use native.Mathlib.Omega.{arith}
use Rattle.rules.proofs.Formulas.{good_room}
use Rattle.slip_form.proofs.Descent.{child_low, child-good, down_next, down_end}
use Rattle.slip_form.proofs.is_chain.Goals as goal

pub node_at-x-requires : goal.node_at-x-requires
node_at-x-requires c = good_room c.args.file.now c.args.first c.args.top c.requires.0

pub loop-x-init : goal.loop-x-init
loop-x-init c = record { good = c.requires.0; low = le_refl _; is = c.node_at-x.ensures; same_part = refl }

pub node_at-x-requires-in-loop-x : goal.node_at-x-requires-in-loop-x
node_at-x-requires-in-loop-x c = let down = c.loop-x.invariant in
    good_room c.args.file.now c.args.first _ (child-good c.args.file.now c.args.first c.args.top c.loop-x.node c.loop-x.x down c.loop-x-test.true)

pub loop-x-smaller : goal.loop-x-smaller
loop-x-smaller c = let down = c.loop-x.invariant in
    child_low c.args.file.now c.args.first c.args.top c.loop-x.node c.loop-x.x down c.loop-x-test.true

pub loop-x-preserved : goal.loop-x-preserved
loop-x-preserved c = let down = c.loop-x.invariant in
    down_next c.args.file.now c.args.first c.args.top c.loop-x.node c.loop-x.x down _ c.loop-x-test.true c.node_at-x-in-loop-x.ensures

pub bounds-heights-node : goal.bounds-heights-node
bounds-heights-node c = let down = c.loop-x.invariant in
    omega (arith, down.low, c.requires.1.long)

pub returns : goal.returns
returns c = let down = c.loop-x.invariant in
    down_end c.args.file.now c.args.first c.args.top c.loop-x.node c.loop-x.x down _ c.requires.1 c.loop-x-test.false
