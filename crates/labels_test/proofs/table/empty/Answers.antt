-- The table of no labels is readable.
use Rattle.labels_test.proofs.Readable.{empty_readable}
use Rattle.labels_test.proofs.table.empty.Goals as goal

pub returns : goal.returns
returns c = search empty_readable
