-- 20 for a buffer that is too short; then what is answered for the record that the bytes hold.
use Rattle.slip_bytes.proofs.Few.{passing_same}
use Rattle.scene_log.proofs.Slips.{pass_no_record, pass_known}
use Rattle.scene_log.proofs.scene_log_slip_passes.Goals as goal

pub returns-then-carried-lt-RECORD_BYTES : goal.returns-then-carried-lt-RECORD_BYTES
returns-then-carried-lt-RECORD_BYTES c = search pass_no_record

pub returns : goal.returns
returns c = let told = passing_same _ _ c.passing_number.ensures in
    search pass_known
