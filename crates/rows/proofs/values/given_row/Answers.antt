-- The label's row for "same", nothing for a rank that is not finished, and else the ranks after or before the given one.
use Rattle.rows.proofs.Given.{given_same, given_open, given_seconds, given_firsts}
use borrow.Author.Rules.{rules}
use Rattle.rows.proofs.values.given_row.Goals as goal

pub with_label-requires : goal.with_label-requires
with_label-requires c = (c.requires.q_bound.2.numbers.low c.args.i c.requires.q_bound.1, c.requires.tables.long-labelled)

pub seconds_of-requires : goal.seconds_of-requires
seconds_of-requires c = let a = c.args in
    let p = c.requires in
    let ranks = p.q_bound.2 in
    let tables = p.tables in
    (ranks.starts.low a.i p.q_bound.1, ranks.finishes.low a.i p.q_bound.1, tables.long-begun, tables.long-ended)

pub firsts_of-requires : goal.firsts_of-requires
firsts_of-requires c = let a = c.args in
    let p = c.requires in
    let ranks = p.q_bound.2 in
    let tables = p.tables in
    (ranks.starts.low a.i p.q_bound.1, ranks.finishes.low a.i p.q_bound.1, tables.long-begun, tables.long-ended)

pub returns-then-k-eq3 : goal.returns-then-k-eq3
returns-then-k-eq3 c = let a = c.args in
    let p = c.requires in
    given_same a.start.now a.finish.now a.number.now a.begun.now a.ended.now a.labelled.now p.q_bound.2 p.tables a.q a.i p.q_bound.1 _ (search rules) c.with_label.ensures

pub returns-then-f-eq0 : goal.returns-then-f-eq0
returns-then-f-eq0 c = let a = c.args in
    let p = c.requires in
    given_open a.start.now a.finish.now a.number.now a.begun.now a.ended.now a.labelled.now p.q_bound.2 p.tables a.q a.i p.q_bound.1 _ (search rules) (search rules) c.empty.ensures

pub returns-then-q-lt4 : goal.returns-then-q-lt4
returns-then-q-lt4 c = let a = c.args in
    let p = c.requires in
    given_seconds a.start.now a.finish.now a.number.now a.begun.now a.ended.now a.labelled.now p.q_bound.2 p.tables a.q a.i p.q_bound.1 _ (search rules) (search rules) (search rules) c.seconds_of.ensures

pub returns-else-q-lt4 : goal.returns-else-q-lt4
returns-else-q-lt4 c = let a = c.args in
    let p = c.requires in
    given_firsts a.start.now a.finish.now a.number.now a.begun.now a.ended.now a.labelled.now p.q_bound.2 p.tables a.q a.i p.q_bound.1 _ (search rules) (search rules) (search rules) c.firsts_of.ensures
