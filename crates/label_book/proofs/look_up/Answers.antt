-- What is left of the book decides, with the label before and what was found so far: each line that is read hands both on.
use native.Mathlib.Omega.{arith}
use Rattle.std.proofs.Common.{ap, not, ◌∙◌}
use Rattle.std.specs.Option.{option_or}
use Rattle.label_book.proofs.Follows.{follow_starts, follow_ends, fits_here, follow_bad, out_of_order, follow_on}
use Rattle.label_book.proofs.look_up.Goals as goal

pub loop-at-init : goal.loop-at-init
loop-at-init c = (omega arith, omega arith, omega arith, follow_starts c.args.book.now c.args.label.now)

pub returns-in_default : goal.returns-in_default
returns-in_default c = search follow_bad

pub overflow_add-sign : goal.overflow_add-sign
overflow_add-sign c = omega (arith, fits_here _ _ _ c.read_line.ensures c.loop-at-test.true _ _ c.in-Some.is)

pub slice_bounds-precedes-start-in-loop-at : goal.slice_bounds-precedes-start-in-loop-at
slice_bounds-precedes-start-in-loop-at c = omega (arith, fits_here _ _ _ c.read_line.ensures c.loop-at-test.true _ _ c.in-Some.is)

pub slice_bounds-precedes-end-in-loop-at : goal.slice_bounds-precedes-end-in-loop-at
slice_bounds-precedes-end-in-loop-at c = omega (arith, fits_here _ _ _ c.read_line.ensures c.loop-at-test.true _ _ c.in-Some.is)

pub returns-then-not-precedes : goal.returns-then-not-precedes
returns-then-not-precedes c = let given = c.args in
    out_of_order given.book.now given.label.now _ _ _ c.loop-at.invariant.3 c.loop-at-test.true _ c.read_line.ensures _ _
    c.in-Some.is _ c.precedes.ensures (ap not c.if-not-precedes.true)

pub slice_bounds-same_label-start : goal.slice_bounds-same_label-start
slice_bounds-same_label-start c = omega (arith, fits_here _ _ _ c.read_line.ensures c.loop-at-test.true _ _ c.in-Some.is)

pub slice_bounds-same_label-end : goal.slice_bounds-same_label-end
slice_bounds-same_label-end c = omega (arith, fits_here _ _ _ c.read_line.ensures c.loop-at-test.true _ _ c.in-Some.is)

pub overflow_add-start : goal.overflow_add-start
overflow_add-start c = omega (arith, fits_here _ _ _ c.read_line.ensures c.loop-at-test.true _ _ c.in-Some.is)

pub overflow_add-end : goal.overflow_add-end
overflow_add-end c = omega (arith, fits_here _ _ _ c.read_line.ensures c.loop-at-test.true _ _ c.in-Some.is)

pub overflow_add-at : goal.overflow_add-at
overflow_add-at c = omega (arith, fits_here _ _ _ c.read_line.ensures c.loop-at-test.true _ _ c.in-Some.is)

pub loop-at-smaller : goal.loop-at-smaller
loop-at-smaller c = let w = fits_here _ _ _ c.read_line.ensures c.loop-at-test.true _ _ c.in-Some.is in
    omega (arith, w, c.loop-at-test.true)

pub loop-at-preserved : goal.loop-at-preserved
loop-at-preserved c = let given = c.args in
    let w = fits_here _ _ _ c.read_line.ensures c.loop-at-test.true _ _ c.in-Some.is in (
      omega (arith, w),
      omega arith,
      omega (arith, w),
      follow_on given.book.now given.label.now _ _ _ c.loop-at.invariant.3 c.loop-at-test.true _ c.read_line.ensures _ _
          c.in-Some.is _ c.precedes.ensures (ap not c.if-not-precedes.false) _ c.same_label-same.ensures _ (c.or-found.ensures ∙ ap (option_or c.loop-at.found) c.then_some.ensures),
    )

pub returns : goal.returns
returns c = search follow_ends
