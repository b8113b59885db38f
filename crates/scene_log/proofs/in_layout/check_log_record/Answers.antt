-- The buffers are those that the whole-log call leaves, and its record is kept in the bytes.
use Rattle.scene_log.proofs.InBytes.{log_no_record, part_kept}
use Rattle.scene_log.proofs.in_layout.check_log_record.Goals as goal

pub returns-then-carried-lt-RECORD_BYTES : goal.returns-then-carried-lt-RECORD_BYTES
returns-then-carried-lt-RECORD_BYTES c = search log_no_record

pub returns : goal.returns
returns c = search part_kept
