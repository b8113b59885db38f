-- A row below 1024 has a rank given, and the others are listed.
use Rattle.rows.proofs.Given.{row_given, row_listed}
use borrow.Author.Rules.{rules}
use Rattle.rows.proofs.values.row_of.Goals as goal

pub returns-then-r-lt-LABEL_ROW : goal.returns-then-r-lt-LABEL_ROW
returns-then-r-lt-LABEL_ROW c = let a = c.args in
    let p = c.requires in
    row_given a.start.now a.finish.now a.number.now a.begun.now a.ended.now a.labelled.now p.r_lt_table_rows.1 p.tables a.wanted.now a.labels a.r _ (search rules) c.given_row.ensures

pub returns-else-r-lt-LABEL_ROW : goal.returns-else-r-lt-LABEL_ROW
returns-else-r-lt-LABEL_ROW c = let a = c.args in
    let p = c.requires in
    row_listed a.start.now a.finish.now a.number.now a.begun.now a.ended.now a.labelled.now p.r_lt_table_rows.1 p.tables a.wanted.now a.labels a.r _ p.r_lt_table_rows.2 (search rules) (search rules) c.listed_row.ensures
