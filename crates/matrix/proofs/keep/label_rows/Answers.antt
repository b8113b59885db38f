-- The label of the run of a row picks rows; that of any other run is one set for all rows.
use Prim.Native.Nat.{◌+◌, ◌<◌}
use mathlib.Core.Path.{sym, ap, ◌∙◌}
use native.Mathlib.Omega.{arith}
use Rattle.sets.specs.Sets.{mem}
use Rattle.set_table.specs.Rows.{row}
use Rattle.set_table.proofs.Turns.{narrowed_as}
use Rattle.matrix.proofs.Rowed.{row_stands, same_stands}
use Rattle.matrix.proofs.keep.label_rows.Goals as goal

pub returns-then-x-eq-ROWS : goal.returns-then-x-eq-ROWS
returns-then-x-eq-ROWS c = let a = c.args in
    let d = c.pick_rows.ensures in
    let e = c.if-x-eq-ROWS.true in (
      d.long,
      λ k l.
          let few : k < 128 = omega arith in
          narrowed_as _ _ _ _ (d.rows k l) (λ j h. c.label_set.ensures k few ∙ ap (mem (row a.table.now (1024 + a.p))) (sym (row_stands a.x k few j e))),
    )

pub returns-else-x-eq-ROWS : goal.returns-else-x-eq-ROWS
returns-else-x-eq-ROWS c = let a = c.args in
    let d = c.meet_each.ensures in
    let n = c.if-x-eq-ROWS.false in
    (d.long, λ k l. narrowed_as _ _ _ _ (d.rows k l) (λ j h. c.label_set-else-x-eq-ROWS.ensures j h ∙ ap (mem (row a.table.now (1024 + a.p))) (same_stands a.x k j n)))
