use Rattle.typed_file.proofs.Writing.{Labelled}
use Rattle.typed_file.proofs.file.write_labels.Given as goal

-- The labels passed stand behind the place; each takes at most 25 bytes.
abbrev pub invariant-loop-place : goal.invariant-loop-place
invariant-loop-place l = Labelled l.text l.places l.initial.out l.at l.out l.p l.place-index
