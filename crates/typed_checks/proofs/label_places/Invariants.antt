-- The places so far are those of the nodes passed.
use Rattle.typed_checks.proofs.Folds.{Listed}
use Rattle.typed_checks.proofs.label_places.Given as goal

abbrev pub invariant-loop-i : goal.invariant-loop-i
invariant-loop-i l = Listed l.text l.table l.initial.places l.places l.m l.i
