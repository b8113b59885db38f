-- A quote, and the next one behind it.
use Rattle.signs.proofs.Quotes.{label_none, label_open, label_read}
use Rattle.signs.proofs.label.Goals as goal

pub returns-in_err-open : goal.returns-in_err-open
returns-in_err-open c = rw c.from_residual.ensures (label_none _ _ c.in_err-open.ensures)

pub returns-in_err-at : goal.returns-in_err-at
returns-in_err-at c = rw c.from_residual-in_err-at.ensures (label_open _ _ _ c.in_ok-open.ensures c.in_err-at.ensures)

pub returns : goal.returns
returns c = label_read _ _ _ c.in_ok-open.ensures _ c.in_ok-at.ensures
