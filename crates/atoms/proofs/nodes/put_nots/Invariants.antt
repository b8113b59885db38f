-- One not after the other.
use Rattle.atoms.proofs.Tables.{Nots}
use Rattle.atoms.proofs.nodes.put_nots.Given as goal

abbrev pub invariant-loop-i : goal.invariant-loop-i
invariant-loop-i l = Nots l.initial.table l.n l.c l.table l.i
