-- The loop goes on by more runs while the set has all moments of its part. By all runs the answer is right at each moment; by fewer it
-- is right up to a moment that it lacks.
use native.Mathlib.Omega.{arith}
use Rattle.rules.specs.Rules.{formula_of}
use Rattle.timeline.proofs.Until.{until_all, until_lacking, end_more}
use borrow.Author.Rules.{rules}
use borrow.Author.Tests.{not-true}
use Rattle.timeline.proofs.search.true_until.Goals as goal

pub true_moments-s-requires : goal.true_moments-s-requires
true_moments-s-requires c = let few = c.loop-end.invariant.few in
    record { taken = c.requires.taken; shaped = c.requires.shaped; table_words_in_bounds = (omega arith, omega arith, omega arith, omega arith) }

pub returns-then-count-end : goal.returns-then-count-end
returns-then-count-end c = λ M rows.
    until_all c.args.table.now c.args.file.now (formula_of c.args.file.now c.args.rule) c.requires.taken.closed c.args.low c.args.count _ c.args.stop _
    c.loop-end.invariant c.true_moments-s.ensures M rows (omega (arith, c.if-count-end.true))

pub returns-then-not-has_all : goal.returns-then-not-has_all
returns-then-not-has_all c = λ M rows.
    until_lacking c.args.table.now c.args.file.now (formula_of c.args.file.now c.args.rule) c.requires.taken.closed c.args.low c.args.count _ c.args.stop _
    c.loop-end.invariant c.true_moments-s.ensures M rows (c.has_all.ensures.no (not-true _ c.if-not-has_all.true-raw))

pub next_end-end-requires : goal.next_end-end-requires
next_end-end-requires c = let e = c.loop-end.invariant in
    let h = e.some (search rules) in
    search rules

pub loop-end-preserved : goal.loop-end-preserved
loop-end-preserved c = search (rules, end_more)
