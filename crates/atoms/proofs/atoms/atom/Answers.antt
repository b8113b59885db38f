-- `same`, or a name and what stands behind it.
use Rattle.atoms.proofs.Leaves.{atom_same, atom_pair, atom_has, atom_none}
use Rattle.atoms.proofs.atoms.atom.Goals as goal

pub returns-in-Some : goal.returns-in-Some
returns-in-Some c = atom_same _ _ _ _ _ _ _ _ c.in-Some.ensures c.same_atom.ensures

pub returns-in_err-first : goal.returns-in_err-first
returns-in_err-first c = rw c.from_residual.ensures (atom_none _ _ _ _ _ c.in_default.ensures c.in_err-first.ensures)

pub returns-in-Some-sign : goal.returns-in-Some-sign
returns-in-Some-sign c = atom_has _ _ _ _ _ c.in_default.ensures _ c.in_ok-first.ensures _ _ _ c.in-Some-sign.ensures c.has_atom.ensures

pub returns : goal.returns
returns c = atom_pair _ _ _ _ _ c.in_default.ensures _ c.in_ok-first.ensures _ _ c.in_default-sign.ensures c.pair_atom.ensures
