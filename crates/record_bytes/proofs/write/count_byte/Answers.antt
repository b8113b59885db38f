-- A count below 256 is its own byte.
use borrow.Author.Tests.{lt-ltb, le-ltb}
use Rattle.record_bytes.specs.Form.{count_byte}
use Rattle.record_bytes.proofs.write.count_byte.Goals as goal

pub returns-then-n-lt256 : goal.returns-then-n-lt256
unfolding count_byte
returns-then-n-lt256 c = simp (lt-ltb _ 256 c.if-n-lt256.true)

pub returns-else-n-lt256 : goal.returns-else-n-lt256
unfolding count_byte
returns-else-n-lt256 c = simp (le-ltb _ 256 c.if-n-lt256.false)
