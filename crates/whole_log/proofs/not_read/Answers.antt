use Rattle.whole_log.proofs.LogCall.{not_read_lem}
use Rattle.whole_log.proofs.not_read.Goals as goal

-- src/lib.rt:140:1
pub returns : goal.returns
returns c = search not_read_lem
