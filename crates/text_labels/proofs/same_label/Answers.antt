-- The labels begin at the two places.
use Rattle.text_labels.proofs.LabelPieces.{labels_same}
use Rattle.text_labels.proofs.same_label.Goals as goal

pub returns : goal.returns
returns c = search labels_same
