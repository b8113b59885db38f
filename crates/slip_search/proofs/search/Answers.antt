use native.Mathlib.Omega.{arith}
use Rattle.rules.proofs.Formulas.{good_room}
use Rattle.slip_search.proofs.Levels.{level_start, child_ready, variable_low, room_left, level_none, level_next, level_end}
use Rattle.slip_search.proofs.search.Goals as goal

pub node_at-x-requires : goal.node_at-x-requires
node_at-x-requires c = good_room c.args.file.now c.args.first c.args.top c.requires.ready.0.good

pub loop-x-init : goal.loop-x-init
loop-x-init c = level_start c.args.file.now c.args.first c.args.heights.now c.args.frees.now c.args.table.now c.args.runs c.args.top c.args.ranks.now c.args.moment _ c.requires.ready.0 c.requires.top_bound c.node_at-x.ensures

pub first_run-requires : goal.first_run-requires
first_run-requires c = record { ready = ((child_ready c.args.file.now c.args.first c.args.heights.now c.args.frees.now c.args.table.now c.args.runs c.args.top c.args.ranks.now c.args.moment c.loop-x.slip c.loop-x.b c.loop-x.node c.loop-x.x c.loop-x.invariant c.loop-x-test.true).1, c.loop-x.invariant.fixed, c.requires.ready.1); v_lt_variables = (variable_low c.args.file.now c.args.first c.args.heights.now c.args.frees.now c.args.table.now c.args.runs c.args.top c.args.ranks.now c.args.moment c.loop-x.slip c.loop-x.b c.loop-x.node c.loop-x.x c.loop-x.invariant c.loop-x-test.true, c.requires.ready.2) }

pub returns-in_err-k : goal.returns-in_err-k
returns-in_err-k c = rw c.from_residual.ensures (tt, level_none c.args.file.now c.args.first c.args.heights.now c.args.frees.now c.args.table.now c.args.runs c.args.top c.args.ranks.now c.args.moment c.loop-x.slip c.loop-x.b c.loop-x.node c.loop-x.x c.loop-x.invariant c.loop-x-test.true c.in_err-k.ensures.1)

pub overflow_cast-slip : goal.overflow_cast-slip
overflow_cast-slip c = omega (arith, c.in_ok-k.ensures.0.0)

pub bounds-slip-at : goal.bounds-slip-at
bounds-slip-at c = omega (arith, room_left c.args.file.now c.args.first c.args.heights.now c.args.frees.now c.args.table.now c.args.runs c.args.top c.args.ranks.now c.args.moment c.loop-x.slip c.loop-x.b c.loop-x.node c.loop-x.x c.loop-x.invariant c.loop-x-test.true)

pub overflow_add-slip : goal.overflow_add-slip
overflow_add-slip c = omega (arith, room_left c.args.file.now c.args.first c.args.heights.now c.args.frees.now c.args.table.now c.args.runs c.args.top c.args.ranks.now c.args.moment c.loop-x.slip c.loop-x.b c.loop-x.node c.loop-x.x c.loop-x.invariant c.loop-x-test.true)

pub bounds-ranks-k : goal.bounds-ranks-k
bounds-ranks-k c = omega (arith, c.requires.ready.2, c.in_ok-k.ensures.0.0)

pub rebound-b-requires : goal.rebound-b-requires
rebound-b-requires c = variable_low c.args.file.now c.args.first c.args.heights.now c.args.frees.now c.args.table.now c.args.runs c.args.top c.args.ranks.now c.args.moment c.loop-x.slip c.loop-x.b c.loop-x.node c.loop-x.x c.loop-x.invariant c.loop-x-test.true

pub node_at-x-requires-in-loop-x : goal.node_at-x-requires-in-loop-x
node_at-x-requires-in-loop-x c = good_room c.args.file.now c.args.first _ (child_ready c.args.file.now c.args.first c.args.heights.now c.args.frees.now c.args.table.now c.args.runs c.args.top c.args.ranks.now c.args.moment c.loop-x.slip c.loop-x.b c.loop-x.node c.loop-x.x c.loop-x.invariant c.loop-x-test.true).1.good

pub loop-x-smaller : goal.loop-x-smaller
loop-x-smaller c = (child_ready c.args.file.now c.args.first c.args.heights.now c.args.frees.now c.args.table.now c.args.runs c.args.top c.args.ranks.now c.args.moment c.loop-x.slip c.loop-x.b c.loop-x.node c.loop-x.x c.loop-x.invariant c.loop-x-test.true).0

pub loop-x-preserved : goal.loop-x-preserved
loop-x-preserved c = level_next c.args.file.now c.args.first c.args.heights.now c.args.frees.now c.args.table.now c.args.runs c.args.top c.args.ranks.now c.args.moment c.loop-x.slip c.loop-x.b c.loop-x.node c.loop-x.x c.loop-x.invariant c.loop-x-test.true _ _ _ c.in_ok-k.ensures.0.0 c.in_ok-k.ensures.0.1 c.in_ok-k.ensures.1 c.rebound-b.ensures c.node_at-x-in-loop-x.ensures

pub holds_at-requires : goal.holds_at-requires
holds_at-requires c = (c.loop-x.invariant.ready, c.loop-x.invariant.fixed, c.requires.ready.1)

pub returns-then-holds_at : goal.returns-then-holds_at
returns-then-holds_at c = (c.loop-x.invariant.tidy, λ M a. (level_end c.args.file.now c.args.first c.args.heights.now c.args.frees.now c.args.table.now c.args.runs c.args.top c.args.ranks.now c.args.moment c.loop-x.slip c.loop-x.b c.loop-x.node c.loop-x.x c.loop-x.invariant c.loop-x-test.false _ c.holds_at.ensures M a).0 c.if-holds_at.true)

pub returns : goal.returns
returns c = (tt, λ M a. (level_end c.args.file.now c.args.first c.args.heights.now c.args.frees.now c.args.table.now c.args.runs c.args.top c.args.ranks.now c.args.moment c.loop-x.slip c.loop-x.b c.loop-x.node c.loop-x.x c.loop-x.invariant c.loop-x-test.false _ c.holds_at.ensures M a).1 c.if-holds_at.false)
