-- From the start to the first quote.
use Rattle.text_labels.proofs.LabelPieces.{cut}
use Rattle.text_labels.proofs.cut_label.Goals as goal

pub returns : goal.returns
returns c = search cut
