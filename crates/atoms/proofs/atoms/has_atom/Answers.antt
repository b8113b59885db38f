-- A label and the bracket behind it.
use Rattle.atoms.proofs.Leaves.{has_none, has_open, has_read}
use Rattle.atoms.proofs.atoms.has_atom.Goals as goal

pub returns-in_err-quoted : goal.returns-in_err-quoted
returns-in_err-quoted c = rw c.from_residual.ensures (has_none _ _ _ _ _ _ c.in_err-quoted.ensures)

pub returns-in_err-end : goal.returns-in_err-end
returns-in_err-end c = rw c.from_residual-in_err-end.ensures (has_open _ _ _ _ _ _ _ c.in_ok-quoted.ensures c.in_err-end.ensures)

pub returns : goal.returns
returns c = has_read _ _ _ _ _ _ _ c.in_ok-quoted.ensures _ c.in_ok-end.ensures _ c.level.ensures _ c.put.ensures
