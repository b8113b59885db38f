-- Bytes that are too short are refused; others are read whole.
use Rattle.record_bytes.proofs.Calls.{ways-out}
use Rattle.record_bytes.proofs.unpack.Goals as goal

pub returns-then-bytes-lt-RECORD_BYTES : goal.returns-then-bytes-lt-RECORD_BYTES
returns-then-bytes-lt-RECORD_BYTES c = search ways-out

pub returns : goal.returns
returns c = search ways-out
