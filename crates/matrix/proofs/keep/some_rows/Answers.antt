-- The rows start with the moments from each run's own on, keep those at which the body is true, and have the answer together.
use mathlib.Core.Path.{refl, sym, ◌∙◌}
use native.Mathlib.Omega.{arith}
use Rattle.rules.specs.Table.{formula_at}
use Rattle.row_table.specs.Ranks.{binding}
use Rattle.matrix.proofs.Some.{some_by_rows}
use Rattle.matrix.proofs.Ready.{mark_ready}
use Rattle.matrix.proofs.keep.some_rows.Goals as goal

pub slice_bounds-start_rows-end : goal.slice_bounds-start_rows-end
slice_bounds-start_rows-end c = refl

pub start_rows-requires : goal.start_rows-requires
start_rows-requires c = let few = c.requires.0.runs_few in
    (omega arith, few)

pub rebound-rows-requires : goal.rebound-rows-requires
rebound-rows-requires c = c.requires.2

pub slice_bounds-keep_rows-end : goal.slice_bounds-keep_rows-end
slice_bounds-keep_rows-end c = sym c.start_rows.ensures.long

pub keep_rows-requires : goal.keep_rows-requires
keep_rows-requires c = let e = c.start_rows.ensures.long in
    (mark_ready _ _ _ _ _ _ c.requires.0 c.requires.1 c.rebound-rows.result c.args.v c.rebound-rows.ensures, omega arith)

pub slice_bounds-all_rows-end : goal.slice_bounds-all_rows-end
slice_bounds-all_rows-end c = sym (c.keep_rows.ensures.0 ∙ c.start_rows.ensures.long)

pub all_rows-requires : goal.all_rows-requires
all_rows-requires c = let few = c.requires.0.runs_few in
    let e = c.start_rows.ensures.long in
    let f = c.keep_rows.ensures.0 in
    omega arith

pub returns : goal.returns
returns c = let a = c.args in
    let marked = c.rebound-rows in
    λ M rows dropped.
    some_by_rows M (formula_at a.file.now a.first a.child) (binding a.b) (binding marked.result) a.v a.dom a.keep _ a.runs _ _ c.keep_rows.new.m
    rows.runs_are c.requires.0.runs_few c.requires.1 marked.ensures dropped c.start_rows.ensures (c.keep_rows.ensures.1 M rows) c.all_rows.ensures
