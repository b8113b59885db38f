-- The ranks with a label are those that row 0 lacks; a label of the rule file is found by its number.
use native.Mathlib.Omega.{arith}
use Rattle.rows.proofs.Tests.{listed_any, listed_label, listed_none}
use borrow.Author.Rules.{rules}
use Rattle.rows.proofs.values.listed_row.Goals as goal

pub overflow_cast-wanted : goal.overflow_cast-wanted
overflow_cast-wanted c = omega (arith, c.requires.0.low c.args.p (omega arith))

pub with_label-requires : goal.with_label-requires
with_label-requires c = (c.requires.0.low c.args.p (omega arith), c.requires.1)

pub returns-then-p-eq-ANY_LABEL : goal.returns-then-p-eq-ANY_LABEL
returns-then-p-eq-ANY_LABEL c = listed_any _ _ _ _ _ _ _ c.minus.ensures (search rules) c.below.ensures (search rules)

pub returns-then-p-labels : goal.returns-then-p-labels
returns-then-p-labels c = listed_label c.args.wanted.now c.args.labels c.args.labelled.now c.args.p c.with_label.result (search rules) (search rules) c.with_label.ensures

pub returns-else-p-labels : goal.returns-else-p-labels
returns-else-p-labels c = listed_none c.args.wanted.now c.args.labels c.args.labelled.now c.args.p c.empty.result (search rules) (search rules) c.empty.ensures
