use Rattle.typed_file.proofs.Writing.{Noded}
use Rattle.typed_file.proofs.file.write_nodes.Given as goal

-- The nodes passed stand behind the place.
abbrev pub invariant-loop-i : goal.invariant-loop-i
invariant-loop-i l = Noded l.parts.text.now l.parts.table.now l.parts.places.now l.parts.count l.initial.out l.at l.out l.p l.i
