-- A node's moments are those of its formula if its children's are theirs.
use Prim.Native.Nat.{◌+◌, ◌<◌, ◌≤◌}
use mathlib.Core.Path.{sym, subst, ap, ◌∙◌}
use mathlib.Core.Bool.{Bool, ◌&&◌}
use native.Mathlib.Omega.{arith}
use Rattle.sets.specs.Sets.{bit, mem}
use Rattle.sets.specs.declared.RunSet.{RunSet}
use Rattle.rules.specs.Table.{formula_at}
use Rattle.rules.proofs.Formulas.{atom_fields}
use Rattle.row_table.specs.Ranks.{binding}
use Rattle.row_table.proofs.Nodes.{moments_and, moments_and_none, moments_not, moments_some, moments_atom}
use Rattle.row_table.proofs.Some.{some_at_once}
use Rattle.row_table.proofs.Atoms.{all_finished}
use Rattle.moments.proofs.Tried.{Tried, tried_more, tried_skip, tried_all}
use Rattle.moments.proofs.Open.{keeps-and, keeps_some, keeps-flat, dropped_false}
use Rattle.moments.proofs.Ready.{rebound_ready}
use Rattle.moments.proofs.times.+kept_opened_some_some_flat_some_loop_times.Goals.{some_loop-then-not-none, some_loop-else-not-none}
use Rattle.moments.proofs.times.+kept_opened_some_some_flat_some_loop_times.Goals as goal

-- kept
pub kept-opened-requires : goal.kept-opened-requires
kept-opened-requires t c = (omega (arith, c.decreases), rebound_ready _ _ _ _ _ _ _ _ c.requires.ready _ c.args.v 128 (omega arith) c.rebound-each.ensures)

pub kept-returns-then-fixed : goal.kept-returns-then-fixed
kept-returns-then-fixed t c = let a = c.args in
    λ M rows.
    let all = all_finished a.table.now a.file.now a.runs M _ rows c.below-all.ensures in
    let few : M.runs ≤ 128 = omega (arith, rows.runs_are, c.requires.ready.runs_few) in
    dropped_false M (formula_at a.file.now a.first a.child) (binding a.b) a.v _ all (binding c.rebound-each.result) _ (c.fixed.ensures.yes c.if-fixed.true) few c.rebound-each.ensures (c.opened.ensures M rows)

-- opened
pub opened-returns-then-kind-eq1 : goal.opened-returns-then-kind-eq1
opened-returns-then-kind-eq1 t c = let a = c.args in
    λ M rows. keeps-and M (binding a.b) _ _ _ _ c.node_at-x.ensures c.requires.good a.dom (bit a.any) _ _ c.if-kind-eq1.true (c.opened-l.ensures M rows) (c.opened.ensures M rows)

pub opened-returns-then-kind-eq3 : goal.opened-returns-then-kind-eq3
opened-returns-then-kind-eq3 t c = let a = c.args in
    λ M rows. keeps_some M (binding a.b) _ _ _ _ c.node_at-x.ensures c.requires.good a.dom a.any _ _ c.if-kind-eq3.true c.marked-more.ensures (c.opened-then-kind-eq3.ensures M rows)

pub opened-returns-then-closed : goal.opened-returns-then-closed
opened-returns-then-closed t c = let a = c.args in
    λ M rows.
    keeps-flat M (binding a.b) a.file.now a.first a.node a.heights.now a.frees.now a.any a.dom _ c.requires.heights_are c.requires.frees_are
    (c.closed.ensures.yes c.if-closed.true) (c.times.ensures M rows)

-- some_flat
pub some_flat-times-found-requires : goal.some_flat-times-found-requires
some_flat-times-found-requires t c = (omega (arith, c.decreases), rebound_ready _ _ _ _ _ _ _ _ c.requires.ready _ c.args.v 128 (omega arith) c.rebound-each.ensures)

pub some_flat-returns : goal.some_flat-returns
some_flat-returns t c = let a = c.args in
    let q = c.requires.child_value in
    let e = c.rebound-each in
    λ M rows.
    some_at_once M (formula_at a.file.now a.first a.child) (binding a.b) (binding e.result) a.v a.dom _ _ _ q.1 (sym (c.requires.ready.heights_are.high a.child (omega arith)) ∙ q.0) e.ensures
    (all_finished a.table.now a.file.now a.runs M _ rows c.below-all.ensures) (c.times-found.ensures M rows)
    (λ j l. c.meet.ensures j ∙ ap (λ (y : Bool). mem a.dom j && y) (c.upward.ensures j l))

-- some_loop
pub some_loop-times-found-requires : goal.some_loop-times-found-requires
some_loop-times-found-requires t c = let r = c.loop-r.r in
    let l : r ≤ 128 = omega (arith, c.requires.ready.runs_few) in
    (omega (arith, c.decreases), rebound_ready _ _ _ _ _ _ _ _ c.requires.ready _ c.args.v r l c.rebound-at_r.ensures)

pub some_loop-loop-r-preserved : goal.some_loop-loop-r-preserved
some_loop-loop-r-preserved t c = let a = c.args in
    let r = c.loop-r.r in
    let few = c.requires.ready.runs_few in
    let f = formula_at a.file.now a.first a.child in
    λ M rows dropped.
    let Next : RunSet → Type 0 = λ g. Tried M f (binding a.b) a.v a.dom g (r + 1) in
    let old = c.loop-r.invariant M rows dropped in
    let left = c.left_of-left.ensures in
    let l : r < M.runs = omega (arith, rows.runs_are) in
    elim c.if-not-none.branch [
      | some_loop-then-not-none w ↦ subst Next (sym w.got-is) (tried_more M f (binding a.b) a.v a.dom _ _ _ r dropped l left old _ _ (binding w.rebound-at_r.result) (omega arith) w.rebound-at_r.ensures (w.times-found.ensures M rows) w.join-got.ensures)
      | some_loop-else-not-none w ↦ subst Next (sym w.got-is) (tried_skip M f (binding a.b) a.v a.dom _ _ _ r dropped l left old (c.none.ensures.yes w.if-not-none.false))
    ]

pub some_loop-returns : goal.some_loop-returns
some_loop-returns t c = let a = c.args in
    λ M rows dropped. tried_all M (formula_at a.file.now a.first a.child) (binding a.b) a.v a.dom _ c.loop-r.r (omega (arith, rows.runs_are)) (c.loop-r.invariant M rows dropped)

-- times
pub times-returns-then-none : goal.times-returns-then-none
times-returns-then-none t c = let a = c.args in
    λ M rows. moments_and_none M (binding a.b) _ _ _ _ c.node_at-x.ensures c.requires.good a.dom _ c.if-kind-eq1.true (c.times-l.ensures M rows) (c.none.ensures.yes c.if-none.true)

pub times-returns-else-none : goal.times-returns-else-none
times-returns-else-none t c = let a = c.args in
    λ M rows. moments_and M (binding a.b) _ _ _ _ c.node_at-x.ensures c.requires.good a.dom _ _ c.if-kind-eq1.true (c.times-l.ensures M rows) (c.times.ensures M rows)

pub times-returns-then-kind-eq2 : goal.times-returns-then-kind-eq2
times-returns-then-kind-eq2 t c = let a = c.args in
    λ M rows. moments_not M (binding a.b) _ _ _ _ c.node_at-x.ensures c.requires.good a.dom _ _ c.if-kind-eq2.true (c.times-l-then-kind-eq2.ensures M rows) (λ j _. c.minus.ensures j)

pub times-returns-then-kind-eq3 : goal.times-returns-then-kind-eq3
times-returns-then-kind-eq3 t c = let a = c.args in
    λ M rows. moments_some M (binding a.b) _ _ _ _ c.node_at-x.ensures c.requires.good a.dom _ c.if-kind-eq3.true (c.some.ensures M rows)

pub times-returns-else-kind-eq3 : goal.times-returns-else-kind-eq3
times-returns-else-kind-eq3 t c = let a = c.args in
    let o = atom_fields _ _ _ _ c.node_at-x.ensures c.requires.good c.if-kind-eq1.false c.if-kind-eq2.false c.if-kind-eq3.false in
    λ M rows. moments_atom M (binding a.b) _ _ _ _ c.node_at-x.ensures c.requires.good a.dom _ o
    (λ j l. c.meet.ensures j ∙ ap (λ (y : Bool). mem a.dom j && y) (c.atom_set.ensures _ _ M rows o j l))
