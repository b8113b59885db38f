-- The two counts are stored behind the line count.
use lib.ListN.{length-set}
use Rattle.record_bytes.proofs.Joined.{stored_long}
use Rattle.record_bytes.proofs.Form.{head_stored}
use borrow.Author.Rules.{rules}
use Rattle.record_bytes.proofs.write.put_head.Goals as goal

pub bounds-out-3 : goal.bounds-out-3
bounds-out-3 c = simp length-set (search rules)

pub returns : goal.returns
returns c = search head_stored

pub shape_of-out : goal.shape_of-out
shape_of-out c = stored_long _ _ _ _ (returns c)
