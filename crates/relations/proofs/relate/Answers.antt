-- A record that no accepted lines leave is refused first. Of any other the two runs' positions are those of its log's runs, so that
-- the tests, in the order 22, 23, are the definition's.
use borrow.Author.Rules.{rules}
use borrow.Author.Tests.{not-true, not-false}
use Rattle.relations.proofs.Runs.{no_record, first_unfinished, second-unfinished, same_run, two_runs}
use Rattle.relations.proofs.relate.Goals as goal

pub returns-then-not-is_record : goal.returns-then-not-is_record
returns-then-not-is_record c = no_record _ _ _ (c.is_record.ensures.no (not-true _ c.if-not-is_record.true-raw))

pub returns-then-x-eq0 : goal.returns-then-x-eq0
returns-then-x-eq0 c = first_unfinished _ _ _ (c.is_record.ensures.yes (not-false _ c.if-not-is_record.false-raw)) _ c.span_of-x.ensures c.if-x-eq0.true

pub returns-then-y-eq0 : goal.returns-then-y-eq0
returns-then-y-eq0 c = second-unfinished _ _ _ (c.is_record.ensures.yes (not-false _ c.if-not-is_record.false-raw)) _ c.span_of-x.ensures _ c.span_of-y.ensures c.if-y-eq0.true

pub returns-then-a-b : goal.returns-then-a-b
returns-then-a-b c = same_run _ _ _ (c.is_record.ensures.yes (not-false _ c.if-not-is_record.false-raw)) _ c.span_of-x.ensures _ c.span_of-y.ensures
    c.if-x-eq0.false c.if-a-b.true

pub returns : goal.returns
returns c = two_runs _ _ _ (c.is_record.ensures.yes (not-false _ c.if-not-is_record.false-raw)) _ c.span_of-x.ensures _ c.span_of-y.ensures
    c.if-x-eq0.false (search rules) c.if-a-b.false _ c.relation_between.ensures.answer
