-- The capitals passed are the same in both, and none is a quote.
use Rattle.text_labels.proofs.LabelPieces.{SameFrom}
use Rattle.text_labels.proofs.same_from.Given as goal

abbrev pub invariant-loop-i : goal.invariant-loop-i
invariant-loop-i l = SameFrom l.text l.a l.b l.i
