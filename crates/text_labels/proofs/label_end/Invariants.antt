-- No byte passed is a quote.
use Rattle.text_labels.proofs.LabelPieces.{Scanned}
use Rattle.text_labels.proofs.label_end.Given as goal

abbrev pub invariant-loop-p : goal.invariant-loop-p
invariant-loop-p l = Scanned l.text l.at l.p
