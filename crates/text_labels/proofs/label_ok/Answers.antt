-- The piece is the label.
use Rattle.text_labels.proofs.LabelPieces.{label_form}
use Rattle.text_labels.proofs.label_ok.Goals as goal

pub returns : goal.returns
returns c = search label_form
