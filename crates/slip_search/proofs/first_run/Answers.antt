-- The runs before this one do not serve: each has no rank, is left out by the evaluator, or was asked for.
use Prim.Native.Nat.{◌<◌}
use mathlib.Core.Path.{sym, ◌∙◌}
use native.Mathlib.Omega.{arith}
use Rattle.rules.specs.Table.{formula_at}
use Rattle.row_table.specs.Ranks.{binding}
use Rattle.moments.proofs.Ready.{rebound_ready}
use Rattle.slip_search.proofs.Asked.{kept_low, left_out, not_so, is_so, one_further, least_here, least_none, fixed_bound}
use Rattle.slip_search.proofs.first_run.Goals as goal
use Rattle.slip_search.proofs.first_run.Goals.{then-is_kept+else-holds_at, else-is_kept}

pub kept-keep-requires : goal.kept-keep-requires
kept-keep-requires c = record { ready = c.requires.ready.0; v_lt_variables = c.requires.v_lt_variables.0 }

pub loop-k-init : goal.loop-k-init
loop-k-init c = λ M rows j h. absurd (omega (arith, h))

pub rebound-at_rank-requires : goal.rebound-at_rank-requires
rebound-at_rank-requires c = c.requires.v_lt_variables.0

pub holds_at-requires : goal.holds_at-requires
holds_at-requires c = let ready = c.requires.ready.0 in
    let few = ready.runs_few in
    let low = kept_low _ c.args.runs _ _ c.is_kept.ensures c.if-is_kept.true in (
      rebound_ready c.args.file.now c.args.first c.args.heights.now c.args.frees.now c.args.table.now c.args.runs c.args.child c.args.b ready _ c.args.v _ (omega (arith, few, low)) c.rebound-at_rank.ensures,
      fixed_bound (binding c.args.b) _ c.args.v _ c.requires.ready.1 (omega (arith, few, low)) c.rebound-at_rank.ensures,
      c.requires.ready.2,
    )

pub returns-then-holds_at : goal.returns-then-holds_at
returns-then-holds_at c = let low = kept_low _ c.args.runs _ _ c.is_kept.ensures c.if-is_kept.true in
    let few : c.loop-k.k < 128 = omega (arith, c.requires.v_lt_variables.1, c.loop-k-test.true) in (
      (few, low),
      λ M rows. (
        few,
        least_here M c.args.ranks.now c.args.runs c.args.moment (formula_at c.args.file.now c.args.first c.args.child) (binding c.args.b) c.args.v c.loop-k.k few (c.loop-k.invariant M rows)
            (is_so M c.args.ranks.now c.args.runs c.args.moment (formula_at c.args.file.now c.args.first c.args.child) (binding c.args.b) c.args.v c.loop-k.k low _ c.rebound-at_rank.ensures _ (c.holds_at.ensures M rows) c.if-holds_at.true),
      ),
    )

pub loop-k-preserved : goal.loop-k-preserved
loop-k-preserved c =
    λ M rows.
    one_further M c.args.ranks.now c.args.runs c.args.moment (formula_at c.args.file.now c.args.first c.args.child) (binding c.args.b) c.args.v c.loop-k.k (c.loop-k.invariant M rows)
    (elim c.if-is_kept.branch [ then-is_kept+else-holds_at w ↦ not_so M c.args.ranks.now c.args.runs c.args.moment (formula_at c.args.file.now c.args.first c.args.child) (binding c.args.b) c.args.v c.loop-k.k (kept_low _ c.args.runs _ _ c.is_kept.ensures w.if-is_kept.true) _ w.rebound-at_rank.ensures _ (w.holds_at.ensures M rows) w.if-holds_at.false | else-is_kept w ↦ left_out M c.args.ranks.now c.args.runs c.args.moment (formula_at c.args.file.now c.args.first c.args.child) (binding c.args.b) c.args.v _ (c.kept-keep.ensures M rows) c.requires.ready.1 (sym rows.runs_are) c.loop-k.k (sym c.is_kept.ensures ∙ w.if-is_kept.false) ])

pub returns : goal.returns
returns c = (
  tt,
  λ M rows. least_none M c.args.ranks.now c.args.runs c.args.moment (formula_at c.args.file.now c.args.first c.args.child) (binding c.args.b) c.args.v c.loop-k.k (omega (arith, c.requires.v_lt_variables.1, c.loop-k-test.false)) (c.loop-k.invariant M rows),
)
