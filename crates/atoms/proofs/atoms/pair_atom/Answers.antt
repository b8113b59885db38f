-- A relation and its second name.
use Rattle.atoms.proofs.Leaves.{pair_none, pair_half, pair_read}
use Rattle.atoms.proofs.atoms.pair_atom.Goals as goal

pub returns-in_err-kind : goal.returns-in_err-kind
returns-in_err-kind c = rw c.from_residual.ensures (pair_none _ _ _ _ _ _ c.in_err-kind.ensures)

pub returns-in_err-second : goal.returns-in_err-second
returns-in_err-second c = rw c.from_residual-in_err-second.ensures (pair_half _ _ _ _ _ _ _ c.in_ok-kind.ensures c.in_err-second.ensures)

pub returns : goal.returns
returns c = pair_read _ _ _ _ _ _ _ c.in_ok-kind.ensures _ c.in_ok-second.ensures _ c.put_pair.ensures
