-- Each test's outcome says which fault of the label decides.
use Rattle.rules.proofs.Labels.{label-cases}
use Rattle.rules.proofs.file_labels.label.Goals as goal

pub returns-then-file-at-lt1 : goal.returns-then-file-at-lt1
returns-then-file-at-lt1 c = search label-cases

pub returns-then-size-lt1 : goal.returns-then-size-lt1
returns-then-size-lt1 c = search label-cases

pub returns-then-size-gt-MAX_LABEL_BYTES : goal.returns-then-size-gt-MAX_LABEL_BYTES
returns-then-size-gt-MAX_LABEL_BYTES c = search label-cases

pub returns-then-file-from : goal.returns-then-file-from
returns-then-file-from c = search label-cases

pub returns-then-not-is_label : goal.returns-then-not-is_label
returns-then-not-is_label c = search label-cases

pub returns-then-is_listed : goal.returns-then-is_listed
returns-then-is_listed c = search label-cases

pub returns : goal.returns
returns c = search label-cases
