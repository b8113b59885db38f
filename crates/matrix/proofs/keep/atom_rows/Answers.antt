-- Kind 4 is a label, and kinds 5 to 8 are relations.
use Prim.Native.Nat.{ℕ, ◌-◌, ◌<◌}
use mathlib.Core.Path.{ap}
use native.Mathlib.Omega.{arith}
use Rattle.matrix.specs.Matrix.{in_row, rowed}
use Rattle.row_table.specs.Ranks.{binding}
use Rattle.row_table.proofs.Atoms.{atom_label, atom_pair}
use Rattle.set_table.proofs.Turns.{narrowed_as}
use Rattle.matrix.proofs.Rowed.{in_row_low}
use Rattle.matrix.proofs.keep.atom_rows.Goals as goal

pub label_rows-requires : goal.label_rows-requires
label_rows-requires c = let i = c.bound-i.ensures in
    let most = c.requires.atom_ok.1 c.args.x.a in
    record { table_words_in_bounds = c.requires.table_words_in_bounds; p_lt_label_rows = (c.requires.atom_ok.0.place c.if-kind-eq4.true, omega arith) }

pub bound-requires : goal.bound-requires
bound-requires c = c.requires.atom_ok.0.second c.if-kind-eq4.false

pub pair_rows-requires : goal.pair_rows-requires
pair_rows-requires c = let i = c.bound-i.ensures in
    let j = c.bound.ensures in
    let d = c.wide.ensures in
    let first = c.requires.atom_ok.1 c.args.x.a in
    let second = c.requires.atom_ok.1 c.args.x.b in
    let high = c.requires.atom_ok.0.high in
    record { table_words_in_bounds = c.requires.table_words_in_bounds; r_bound = (omega arith, omega arith, omega arith) }

pub returns-then-kind-eq4 : goal.returns-then-kind-eq4
returns-then-kind-eq4 c = let i = c.bound-i in
    let d = c.label_rows.ensures in
    let most = c.requires.atom_ok.1 c.args.x.a in
    let e = i.ensures in (
      d.0,
      λ file n M rows ok k l.
          let few : k < 128 = omega arith in
          narrowed_as _ _ _ _ (d.1 k l)
          (atom_label _ file n M rows _ ok (rowed (binding c.args.b) k) (in_row i.result k) (ap (λ (z : ℕ). in_row z k) e) (in_row_low i.result k few (omega arith)) c.if-kind-eq4.true),
    )

pub returns-else-kind-eq4 : goal.returns-else-kind-eq4
returns-else-kind-eq4 c = let i = c.bound-i in
    let r = c.pair_rows.ensures in
    let most = c.requires.atom_ok.1 c.args.x.a in
    let e = i.ensures in
    let y = c.bound in
    let w = c.wide in
    let d = w.ensures in (
      r.0,
      λ file n M rows ok k l.
          let few : k < 128 = omega arith in
          let low = ok.low in
          narrowed_as _ _ _ _ (r.1 file n M rows k l)
          (λ j _. atom_pair _ file n M rows _ ok (rowed (binding c.args.b) k) (in_row i.result k) (ap (λ (z : ℕ). in_row z k) e) (in_row_low i.result k few (omega arith)) (w.result - 5) (in_row y.result k) c.if-kind-eq4.false (omega arith) (ap (λ (z : ℕ). in_row z k) y.ensures) j),
    )
