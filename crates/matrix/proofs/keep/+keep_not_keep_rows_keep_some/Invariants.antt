-- The measure is twice the node's number: each call goes to a smaller node or, at one node, from keep_not or keep_some to keep_rows.
use Rattle.std.proofs.Common.{◌+◌, ◌*◌}
use Rattle.matrix.proofs.keep.+keep_not_keep_rows_keep_some.Given as goal

abbrev pub decreases-keep_not : goal.decreases-keep_not
decreases-keep_not l = 2 * l.child + 1

abbrev pub decreases-keep_rows : goal.decreases-keep_rows
decreases-keep_rows l = 2 * l.node

abbrev pub decreases-keep_some : goal.decreases-keep_some
decreases-keep_some l = 2 * l.child + 1
