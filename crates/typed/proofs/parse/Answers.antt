-- The rule, and the place behind the spaces that follow it.
use Rattle.typed.proofs.Whole.{text_long, text_lost, text_more, text_read}
use Rattle.typed.proofs.parse.Goals as goal

pub returns-then-text-gt-MAX_TEXT : goal.returns-then-text-gt-MAX_TEXT
returns-then-text-gt-MAX_TEXT c = search text_long

pub returns-in_err-rule : goal.returns-in_err-rule
returns-in_err-rule c = rw c.from_residual.ensures (text_lost _ _ _ c.if-text-gt-MAX_TEXT.false _ _ c.in_err-rule.ensures)

pub returns-then-end-text : goal.returns-then-end-text
returns-then-end-text c = text_more _ _ _ c.if-text-gt-MAX_TEXT.false _ _ _ c.in_ok-rule.ensures _ c.skip-end.ensures c.if-end-text.true

pub returns : goal.returns
returns c = text_read _ _ _ c.if-text-gt-MAX_TEXT.false _ _ _ c.in_ok-rule.ensures _ c.skip-end.ensures c.if-end-text.false
