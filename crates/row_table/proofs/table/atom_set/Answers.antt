-- Kind 4 is the row of a label, and kinds 5 to 8 are the rows of a relation.
use mathlib.Core.Path.{◌∙◌}
use native.Mathlib.Omega.{arith}
use Rattle.row_table.specs.Ranks.{binding}
use Rattle.row_table.proofs.Atoms.{atom_label, atom_pair}
use Rattle.row_table.proofs.table.atom_set.Goals as goal

pub label_set-requires : goal.label_set-requires
label_set-requires c = let i = c.bound-i.ensures in
    let most = c.requires.in_range c.args.x.a in
    record { table_words_in_bounds = c.requires.table_words_in_bounds; p_lt_label_rows = (c.requires.atom_ok.place c.if-kind-eq4.true, omega arith) }

pub bound-requires : goal.bound-requires
bound-requires c = c.requires.atom_ok.second c.if-kind-eq4.false

pub pair_set-requires : goal.pair_set-requires
pair_set-requires c = let i = c.bound-i.ensures in
    let j = c.bound.ensures in
    let d = c.wide.ensures in
    let first = c.requires.in_range c.args.x.a in
    let second = c.requires.in_range c.args.x.b in
    let high = c.requires.atom_ok.high in
    record { table_words_in_bounds = c.requires.table_words_in_bounds; k_bound = (omega arith, omega arith, omega arith) }

pub returns-then-kind-eq4 : goal.returns-then-kind-eq4
returns-then-kind-eq4 c file runs M rows ok j l = let i = c.bound-i in
    let e = i.ensures in
    let most = c.requires.in_range c.args.x.a in
    c.label_set.ensures j l ∙ atom_label _ file runs M rows _ ok (binding c.args.b) i.result e (omega arith) c.if-kind-eq4.true j l

pub returns-else-kind-eq4 : goal.returns-else-kind-eq4
returns-else-kind-eq4 c file runs M rows ok j l = let i = c.bound-i in
    let e = i.ensures in
    let most = c.requires.in_range c.args.x.a in
    let d = c.wide.ensures in
    let low = ok.low in
    c.pair_set.ensures file runs M rows j l ∙ atom_pair _ file runs M rows _ ok (binding c.args.b) i.result e (omega arith) _ _ c.if-kind-eq4.false (omega arith) c.bound.ensures j
