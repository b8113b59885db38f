-- The single-line call is asked of the record that the bytes hold, and its answer is kept in them.
use Rattle.scene_log.proofs.InBytes.{line_no_record, line_checked}
use Rattle.scene_log.proofs.in_layout.check_line.Goals as goal

pub returns-then-carried-lt-RECORD_BYTES : goal.returns-then-carried-lt-RECORD_BYTES
returns-then-carried-lt-RECORD_BYTES c = search line_no_record

pub returns : goal.returns
returns c = search line_checked
