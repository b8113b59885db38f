-- Bracket, name, comma, name, bracket.
use Rattle.atoms.proofs.Leaves.{same-0, same-1, same-2, same-3, same-4, same_read}
use Rattle.atoms.proofs.atoms.same_atom.Goals as goal

pub returns-in_err-open : goal.returns-in_err-open
returns-in_err-open c = rw c.from_residual.ensures (same-0 _ _ _ _ _ c.in_err-open.ensures)

pub returns-in_err-first : goal.returns-in_err-first
returns-in_err-first c = rw c.from_residual-in_err-first.ensures (same-1 _ _ _ _ _ _ c.in_ok-open.ensures c.in_err-first.ensures)

pub returns-in_err-comma : goal.returns-in_err-comma
returns-in_err-comma c =
    rw c.from_residual-in_err-comma.ensures (same-2 _ _ _ _ _ _ c.in_ok-open.ensures _ c.in_ok-first.ensures c.in_err-comma.ensures)

pub returns-in_err-second : goal.returns-in_err-second
returns-in_err-second c =
    rw c.from_residual-in_err-second.ensures
    (same-3 _ _ _ _ _ _ c.in_ok-open.ensures _ c.in_ok-first.ensures _ c.in_ok-comma.ensures c.in_err-second.ensures)

pub returns-in_err-end : goal.returns-in_err-end
returns-in_err-end c =
    rw c.from_residual-in_err-end.ensures
    (same-4 _ _ _ _ _ _ c.in_ok-open.ensures _ c.in_ok-first.ensures _ c.in_ok-comma.ensures _ c.in_ok-second.ensures c.in_err-end.ensures)

pub returns : goal.returns
returns c =
    same_read _ _ _ _ _ _ c.in_ok-open.ensures _ c.in_ok-first.ensures _ c.in_ok-comma.ensures _ c.in_ok-second.ensures _ c.in_ok-end.ensures _ c.put_pair.ensures
