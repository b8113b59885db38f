-- Each part is the one that the twin placed, and it lies inside its slice.
use mathlib.Core.Path.{refl}
use native.Mathlib.Omega.{arith}
use Rattle.label_book.proofs.Answers.{piece_read, inside_book, inside_log, hands_book, hands_log, hands_none}
use Rattle.label_book.proofs.text_for.Goals as goal

pub slice_bounds-result-count : goal.slice_bounds-result-count
slice_bounds-result-count c = let w = inside_book _ _ _ _ _ c.piece_for.ensures _ _ (piece_read _ _ _ c.in-Ok.is c.in-InBook.is) in
    omega (arith, w.0, w.1)

pub slice_bounds-result-start : goal.slice_bounds-result-start
slice_bounds-result-start c = let w = inside_book _ _ _ _ _ c.piece_for.ensures _ _ (piece_read _ _ _ c.in-Ok.is c.in-InBook.is) in
    omega (arith, w.0, w.1)

pub slice_bounds-result-end : goal.slice_bounds-result-end
slice_bounds-result-end c = let w = inside_book _ _ _ _ _ c.piece_for.ensures _ _ (piece_read _ _ _ c.in-Ok.is c.in-InBook.is) in
    omega (arith, w.0, w.1)

pub returns-in-InBook : goal.returns-in-InBook
returns-in-InBook c = let args = c.args in
    hands_book args.book args.log _ _ _ c.piece_for.ensures _ _ _ (piece_read _ _ _ c.in-Ok.is c.in-InBook.is)
    (record { block = refl; offset = refl; bytes = refl })

pub slice_bounds-result-count-in-InLog : goal.slice_bounds-result-count-in-InLog
slice_bounds-result-count-in-InLog c = let w = inside_log _ _ _ _ _ c.piece_for.ensures _ _ (piece_read _ _ _ c.in-Ok.is c.in-InLog.is) in
    omega (arith, w.0, w.1)

pub slice_bounds-result-start-in-InLog : goal.slice_bounds-result-start-in-InLog
slice_bounds-result-start-in-InLog c = let w = inside_log _ _ _ _ _ c.piece_for.ensures _ _ (piece_read _ _ _ c.in-Ok.is c.in-InLog.is) in
    omega (arith, w.0, w.1)

pub slice_bounds-result-end-in-InLog : goal.slice_bounds-result-end-in-InLog
slice_bounds-result-end-in-InLog c = let w = inside_log _ _ _ _ _ c.piece_for.ensures _ _ (piece_read _ _ _ c.in-Ok.is c.in-InLog.is) in
    omega (arith, w.0, w.1)

pub returns-in-InLog : goal.returns-in-InLog
returns-in-InLog c = let args = c.args in
    hands_log args.book args.log _ _ _ c.piece_for.ensures _ _ _ (piece_read _ _ _ c.in-Ok.is c.in-InLog.is)
    (record { block = refl; offset = refl; bytes = refl })

pub returns-in-Err : goal.returns-in-Err
returns-in-Err c = let args = c.args in
    hands_none args.book args.log _ _ _ c.piece_for.ensures _ _ c.in-Err.is
    (record { block = refl; offset = refl; bytes = refl })
