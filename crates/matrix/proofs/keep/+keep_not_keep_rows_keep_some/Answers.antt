-- Row by row, a node's moments are those of its formula if its children's are theirs.
use Prim.Native.Nat.{◌<◌}
use mathlib.Core.Path.{ap, ◌∙◌}
use native.Mathlib.Omega.{arith}
use Rattle.sets.specs.Sets.{mem}
use Rattle.sets.specs.declared.RunSet.{RunSet}
use Rattle.rules.specs.Table.{formula_at}
use Rattle.rules.proofs.Formulas.{some_variable, atom_fields}
use Rattle.logic.specs.Satisfies.{Binding}
use Rattle.matrix.specs.Matrix.{rowed}
use Rattle.row_table.specs.Ranks.{binding}
use Rattle.row_table.proofs.Nodes.{true_from, true_neg, moments_and, moments_and_none, moments_neg, moments_some, moments_atom}
use Rattle.row_table.proofs.Some.{some_at_once}
use Rattle.matrix.proofs.Rowed.{rowed-bind, rowed_fixed}
use Rattle.row_table.proofs.Atoms.{all_finished}
use Rattle.matrix.proofs.Ready.{each_ready, left_rows, right_rows, not_rows, some_rows, unmarked, some_flat}
use Rattle.matrix.proofs.keep.+keep_not_keep_rows_keep_some.Goals as goal

pub keep_not-returns : goal.keep_not-returns
keep_not-returns t c = let a = c.args in
    let copied = c.copy_rows.ensures in
    let e = c.keep_rows.ensures in
    let d = c.minus_rows.ensures in (
      d.long,
      λ M rows k l.
          let f = formula_at a.file.now a.first a.child in
          let ρ = rowed (binding a.b) k in
          true_neg M f ρ _ _ _ (true_from M f ρ _ _ _ (copied.rows k l) (e.1 M rows k l)) (d.rows k l),
    )

pub keep_rows-keep_rows-requires : goal.keep_rows-keep_rows-requires
keep_rows-keep_rows-requires t c = let q = left_rows _ _ _ _ _ _ c.requires.0 _ c.node_at-x.ensures c.if-kind-eq1.true in
    (omega (arith, q.0, c.decreases), (q.1, c.requires.1))

pub keep_rows-returns-then-no_rows : goal.keep_rows-returns-then-no_rows
keep_rows-returns-then-no_rows t c = let e = c.keep_rows.ensures in
    (e.0, λ M rows k l. moments_and_none M (rowed (binding c.args.b) k) _ _ _ _ c.node_at-x.ensures c.requires.0.good _ _ c.if-kind-eq1.true (e.1 M rows k l) (c.no_rows.ensures c.if-no_rows.true k l))

pub keep_rows-keep_rows-requires-then-kind-eq1 : goal.keep_rows-keep_rows-requires-then-kind-eq1
keep_rows-keep_rows-requires-then-kind-eq1 t c = let e = c.keep_rows.ensures.0 in
    let q = right_rows _ _ _ _ _ _ c.requires.0 _ c.node_at-x.ensures c.if-kind-eq1.true in
    (omega (arith, q.0, c.decreases), (q.1, omega (arith, c.requires.1)))

pub keep_rows-keep_not-requires : goal.keep_rows-keep_not-requires
keep_rows-keep_not-requires t c = let q = not_rows _ _ _ _ _ _ c.requires.0 _ c.node_at-x.ensures c.if-kind-eq2.true in
    (omega (arith, q.0, c.decreases), (q.1, c.requires.1))

pub keep_rows-keep_some-requires : goal.keep_rows-keep_some-requires
keep_rows-keep_some-requires t c = let r = c.requires.0 in
    let x = c.node_at-x.ensures in
    let k = c.if-kind-eq3.true in
    let q = some_rows _ _ _ _ _ _ r _ x k in
    (omega (arith, q.0, c.decreases), ((q.1, c.requires.1), (some_variable _ _ _ _ x r.good k, some_flat _ _ _ _ _ _ r _ x k, unmarked _ _ _ _ _ _ r _ x k)))

pub keep_rows-returns-else-no_rows : goal.keep_rows-returns-else-no_rows
keep_rows-returns-else-no_rows t c = let e = c.keep_rows.ensures in
    let f = c.keep_rows-then-kind-eq1.ensures in
    (f.0 ∙ e.0, λ M rows k l. moments_and M (rowed (binding c.args.b) k) _ _ _ _ c.node_at-x.ensures c.requires.0.good _ _ _ c.if-kind-eq1.true (e.1 M rows k l) (f.1 M rows k l))

pub keep_rows-returns-then-kind-eq2 : goal.keep_rows-returns-then-kind-eq2
keep_rows-returns-then-kind-eq2 t c = let e = c.keep_not.ensures in
    (e.0, λ M rows k l. moments_neg M (rowed (binding c.args.b) k) _ _ _ _ c.node_at-x.ensures c.requires.0.good _ _ c.if-kind-eq2.true (e.1 M rows k l))

pub keep_rows-returns-then-kind-eq3 : goal.keep_rows-returns-then-kind-eq3
keep_rows-returns-then-kind-eq3 t c = let e = c.keep_some.ensures in
    (e.0, λ M rows k l. moments_some M (rowed (binding c.args.b) k) _ _ _ _ c.node_at-x.ensures c.requires.0.good _ _ c.if-kind-eq3.true (e.1 M rows k l))

pub keep_rows-returns-else-kind-eq3 : goal.keep_rows-returns-else-kind-eq3
keep_rows-returns-else-kind-eq3 t c = let e = c.atom_rows.ensures in
    let o = atom_fields _ _ _ _ c.node_at-x.ensures c.requires.0.good c.if-kind-eq1.false c.if-kind-eq2.false c.if-kind-eq3.false in
    (e.0, λ M rows k l. moments_atom M (rowed (binding c.args.b) k) _ _ _ _ c.node_at-x.ensures c.requires.0.good _ _ o (e.1 _ _ M rows o k l))

pub keep_some-keep_rows-requires : goal.keep_some-keep_rows-requires
keep_some-keep_rows-requires t c = let e = c.set_each.ensures.long in
    (omega (arith, c.decreases), (each_ready _ _ _ _ _ _ c.requires.rows_ready.0 c.requires.v_lt_variables.1 _ c.args.v c.rebound-each.ensures, omega arith))

pub keep_some-returns : goal.keep_some-returns
keep_some-returns t c = let a = c.args in
    let ρ = binding a.b in
    let r = c.requires.rows_ready.0 in
    let each = c.rebound-each in
    let started = c.set_each.ensures in
    let e = c.keep_rows.ensures in
    let d = c.meet_upward.ensures in (
      d.long,
      λ M rows k l.
          let few : k < 128 = omega (arith, r.runs_few) in
          let full = all_finished a.table.now a.file.now a.runs M _ rows c.below.ensures in
          some_at_once M (formula_at a.file.now a.first a.child) (rowed ρ k) (rowed (binding each.result) k) a.v _ _ _ _
          (rowed_fixed ρ k r.in_range_lem c.requires.v_lt_variables.2 few)
          c.requires.v_lt_variables.1
          (ap (λ (τ : Binding). rowed τ k) each.ensures ∙ rowed-bind ρ a.v 128 k (λ q. omega arith))
          (λ j. ap (λ (t : RunSet). mem t j) (started.rows k l) ∙ full j)
          (e.1 M rows k l) (d.rows k l),
    )
