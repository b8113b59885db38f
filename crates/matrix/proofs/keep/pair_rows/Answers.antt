-- Five cases, by which of the two runs is that of the row and which that of the moment.
use Prim.Native.Nat.{ℕ, ◌<◌}
use mathlib.Core.Path.{sym, ap, ap₂, ◌∙◌}
use native.Mathlib.Omega.{arith}
use Rattle.row_table.specs.Truth.{stands_for}
use Rattle.row_table.specs.Rows.{pair_of}
use Rattle.set_table.proofs.Turns.{narrowed_as}
use Rattle.matrix.proofs.Rowed.{row_first, row_second, pick-stands, row_stands, one_stands, same_stands}
use Rattle.matrix.proofs.keep.pair_rows.Goals as goal

pub returns-then-y-eq-EACH : goal.returns-then-y-eq-EACH
returns-then-y-eq-EACH c = let a = c.args in
    let d = c.meet_rows.ensures in (
      d.long,
      λ file n M rows k l.
          let few : k < 128 = omega arith in
          narrowed_as _ _ _ _ (d.rows k l) (λ j h. row_first _ file n M rows a.r a.x a.y k j c.requires.r_bound.0 few h c.if-x-eq-ROWS.true c.if-y-eq-EACH.true),
    )

pub returns-else-y-eq-EACH : goal.returns-else-y-eq-EACH
returns-else-y-eq-EACH c = let a = c.args in
    let d = c.pick_rows.ensures in (
      d.long,
      λ file n M rows k l.
          let few : k < 128 = omega arith in
          narrowed_as _ _ _ _ (d.rows k l) (λ j h. c.pair_set.ensures file n M rows k few ∙ ap₂ (pair_of M a.r) (sym (row_stands a.x k few j c.if-x-eq-ROWS.true)) (ap (λ (z : ℕ). stands_for z k) c.each_row.ensures.0 ∙ pick-stands a.y k few j c.if-y-eq-EACH.false)),
    )

pub returns-then-x-eq-EACH : goal.returns-then-x-eq-EACH
returns-then-x-eq-EACH c = let a = c.args in
    let d = c.meet_rows-then-x-eq-EACH.ensures in (
      d.long,
      λ file n M rows k l.
          let few : k < 128 = omega arith in
          narrowed_as _ _ _ _ (d.rows k l) (λ j h. row_second _ file n M rows a.r a.x a.y k j c.requires.r_bound.0 few h c.if-x-eq-EACH.true c.if-y-eq-ROWS.true),
    )

pub returns-else-x-eq-EACH : goal.returns-else-x-eq-EACH
returns-else-x-eq-EACH c = let a = c.args in
    let d = c.pick_rows-else-x-eq-EACH.ensures in (
      d.long,
      λ file n M rows k l.
          let few : k < 128 = omega arith in
          narrowed_as _ _ _ _ (d.rows k l) (λ j h. c.pair_set-else-x-eq-EACH.ensures file n M rows k few ∙ ap₂ (pair_of M a.r) (one_stands a.x k j c.if-x-eq-ROWS.false c.if-x-eq-EACH.false) (sym (row_stands a.y k few j c.if-y-eq-ROWS.true))),
    )

pub returns-else-y-eq-ROWS : goal.returns-else-y-eq-ROWS
returns-else-y-eq-ROWS c = let a = c.args in
    let d = c.meet_each.ensures in (
      d.long,
      λ file n M rows k l.
          let few : k < 128 = omega arith in
          narrowed_as _ _ _ _ (d.rows k l) (λ j h. c.pair_set-else-y-eq-ROWS.ensures file n M rows j h ∙ ap₂ (pair_of M a.r) (same_stands a.x k j c.if-x-eq-ROWS.false) (same_stands a.y k j c.if-y-eq-ROWS.false)),
    )
