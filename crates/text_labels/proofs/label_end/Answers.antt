-- No byte passed is a quote.
use Rattle.text_labels.proofs.LabelPieces.{scan_first, scan_end, scan-stop, scan_next}
use Rattle.text_labels.proofs.label_end.Goals as goal

pub loop-p-init : goal.loop-p-init
loop-p-init c = search scan_first

pub returns-then-text-p-eq39 : goal.returns-then-text-p-eq39
returns-then-text-p-eq39 c = search scan-stop

pub loop-p-preserved : goal.loop-p-preserved
loop-p-preserved c = search scan_next

pub returns : goal.returns
returns c = search scan_end
