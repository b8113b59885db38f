-- The piece by what was looked up and whether it is a label.
use Rattle.std.proofs.Common.{arith, ◌+◌, ◌≤◌, length}
use Rattle.std.proofs.lemmas.Result.{err_from_is_err_and}
use Rattle.label_book.proofs.Answers.{no_book_answer, no_label_answer, text_answer_lem, log_answer, label_inside}
use Rattle.label_book.proofs.piece_for.Goals as goal

pub returns-in_err-found : goal.returns-in_err-found
returns-in_err-found c =
    let p = err_from_is_err_and c.from_residual.result c.from_residual.ensures.1 in
    rw (p.1, p.2) (no_book_answer _ c.args.log.now c.args.place c.args.length _ _ c.look_up.ensures _ c.in_err-found.was)

pub returns-then-not-is_label : goal.returns-then-not-is_label
returns-then-not-is_label c =
    no_label_answer _ _ _ _ _ c.bytes_at-label.ensures _ c.is_label.ensures _ c.look_up.ensures _ c.in_ok-found.was c.if-not-is_label.true

pub returns-in-Some : goal.returns-in-Some
returns-in-Some c =
    text_answer_lem _ _ _ _ _ c.bytes_at-label.ensures _ c.is_label.ensures _ c.look_up.ensures _ c.in_ok-found.was c.if-not-is_label.false _ _ c.in-Some.is

pub overflow_add-result : goal.overflow_add-result
overflow_add-result c =
    let h : c.args.place + c.args.length ≤ length c.args.log.now =
    label_inside c.args.book.now _ _ _ _ c.bytes_at-label.ensures _ c.is_label.ensures c.if-not-is_label.false in
    omega arith

pub returns-in-None : goal.returns-in-None
returns-in-None c =
    log_answer _ _ _ _ _ c.bytes_at-label.ensures _ c.is_label.ensures _ c.look_up.ensures _ c.in_ok-found.was c.if-not-is_label.false c.in-None.is
