-- On the way down the chain the rest of it, of the rest of the runs, has the truth value of the whole, of all runs (`Going`).
use native.Mathlib.Omega.{arith}
use Rattle.rules.proofs.Formulas.{good_room}
use Rattle.slip_search.proofs.Given.{going_start, place_low, child_ready, variable_low, run_ranked, going_next, going_end}
use Rattle.slip_search.proofs.is_true_of.Goals as goal

pub node_at-x-requires : goal.node_at-x-requires
node_at-x-requires c = good_room c.args.file.now c.args.first c.args.top c.requires.ready.0.good

pub loop-x-init : goal.loop-x-init
loop-x-init c = going_start c.args.file.now c.args.first c.args.heights.now c.args.frees.now c.args.table.now c.args.runs c.args.top c.args.ranks.now c.args.moment c.args.slip _ c.requires.ready.0 c.node_at-x.ensures

pub bounds-slip-i : goal.bounds-slip-i
bounds-slip-i c = let some = c.loop-x-test.true in
    omega (arith, place_low c.args.file.now c.args.first c.args.heights.now c.args.frees.now c.args.table.now c.args.runs c.args.top c.args.ranks.now c.args.moment c.args.slip c.loop-x.i c.loop-x.b c.loop-x.node c.loop-x.x c.loop-x.invariant some, c.requires.top_bound.0)

pub bounds-ranks-k : goal.bounds-ranks-k
bounds-ranks-k c = let some = c.loop-x-test.true in
    omega (arith, (run_ranked c.args.file.now c.args.first c.args.heights.now c.args.frees.now c.args.table.now c.args.runs c.args.top c.args.ranks.now c.args.moment c.args.slip c.loop-x.i c.loop-x.b c.loop-x.node c.loop-x.x c.loop-x.invariant some c.requires.top_bound.1).0, c.requires.ready.2)

pub rebound-b-requires : goal.rebound-b-requires
rebound-b-requires c = let some = c.loop-x-test.true in
    variable_low c.args.file.now c.args.first c.args.heights.now c.args.frees.now c.args.table.now c.args.runs c.args.top c.args.ranks.now c.args.moment c.args.slip c.loop-x.i c.loop-x.b c.loop-x.node c.loop-x.x c.loop-x.invariant some

pub overflow_add-i : goal.overflow_add-i
overflow_add-i c = let some = c.loop-x-test.true in
    omega (arith, place_low c.args.file.now c.args.first c.args.heights.now c.args.frees.now c.args.table.now c.args.runs c.args.top c.args.ranks.now c.args.moment c.args.slip c.loop-x.i c.loop-x.b c.loop-x.node c.loop-x.x c.loop-x.invariant some, c.requires.top_bound.0)

pub node_at-x-requires-in-loop-x : goal.node_at-x-requires-in-loop-x
node_at-x-requires-in-loop-x c = let some = c.loop-x-test.true in
    good_room c.args.file.now c.args.first _ (child_ready c.args.file.now c.args.first c.args.heights.now c.args.frees.now c.args.table.now c.args.runs c.args.top c.args.ranks.now c.args.moment c.args.slip c.loop-x.i c.loop-x.b c.loop-x.node c.loop-x.x c.loop-x.invariant some).1.good

pub loop-x-smaller : goal.loop-x-smaller
loop-x-smaller c = let some = c.loop-x-test.true in
    (child_ready c.args.file.now c.args.first c.args.heights.now c.args.frees.now c.args.table.now c.args.runs c.args.top c.args.ranks.now c.args.moment c.args.slip c.loop-x.i c.loop-x.b c.loop-x.node c.loop-x.x c.loop-x.invariant some).0

pub loop-x-preserved : goal.loop-x-preserved
loop-x-preserved c = let some = c.loop-x-test.true in
    going_next c.args.file.now c.args.first c.args.heights.now c.args.frees.now c.args.table.now c.args.runs c.args.top c.args.ranks.now c.args.moment c.args.slip c.loop-x.i c.loop-x.b c.loop-x.node c.loop-x.x c.loop-x.invariant some c.requires.top_bound.1 _ _ c.rebound-b.ensures c.node_at-x-in-loop-x.ensures

pub holds_at-requires : goal.holds_at-requires
holds_at-requires c = (c.loop-x.invariant.ready, c.loop-x.invariant.fixed, c.requires.ready.1)

pub returns : goal.returns
returns c = λ M rows. going_end c.args.file.now c.args.first c.args.heights.now c.args.frees.now c.args.table.now c.args.runs c.args.top c.args.ranks.now c.args.moment c.args.slip c.loop-x.i c.loop-x.b c.loop-x.node c.loop-x.x c.loop-x.invariant c.loop-x-test.false _ M rows (c.holds_at.ensures M rows)
