-- What is left of the name is that of the whole one.
use lib.ListN.{get_or}
use Rattle.signs.proofs.Spelled.{Named}
use Rattle.signs.proofs.name_rest.Given as goal

abbrev pub invariant-loop-i : goal.invariant-loop-i
invariant-loop-i l = Named l.b-items (get_or l.text l.p 0) l.n l.i
