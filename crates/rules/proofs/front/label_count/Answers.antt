-- The byte at place 5 is tested as in the definition.
use Rattle.rules.proofs.Parts.{label-counts}
use Rattle.rules.proofs.front.label_count.Goals as goal

pub returns-then-file-lt-LABELS_AT : goal.returns-then-file-lt-LABELS_AT
returns-then-file-lt-LABELS_AT c = search label-counts

pub returns-then-file-gt-MAX_LABELS : goal.returns-then-file-gt-MAX_LABELS
returns-then-file-gt-MAX_LABELS c = search label-counts

pub returns : goal.returns
returns c = search label-counts
