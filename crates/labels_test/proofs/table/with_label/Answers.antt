-- The search ends at one of the 128 places, and the number that goes there is at most 64.
use borrow.Author.Rules.{rules}
use Rattle.labels_test.proofs.Readable.{put_readable}
use Rattle.labels.proofs.Probe.{lookup_low}
use Rattle.labels_test.proofs.table.with_label.Goals as goal

pub add_label-requires : goal.add_label-requires
add_label-requires c = (search rules, search lookup_low)

pub returns : goal.returns
returns c = search (rules, put_readable)
