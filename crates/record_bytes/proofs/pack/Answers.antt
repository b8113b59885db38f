-- A short buffer is left as it is; in any other the bytes stored from the front on are the record's, and the rest stays.
use Rattle.record_bytes.proofs.Calls.{ways-out}
use Rattle.record_bytes.proofs.pack.Goals as goal

pub returns-then-out-lt-RECORD_BYTES : goal.returns-then-out-lt-RECORD_BYTES
returns-then-out-lt-RECORD_BYTES c = search ways-out

pub returns : goal.returns
returns c = search ways-out
