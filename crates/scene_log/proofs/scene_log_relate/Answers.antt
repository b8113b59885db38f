-- The relating call is asked of the record that the bytes hold. A number above 255 is asked as 255, which is no run's either.
use Rattle.answer_numbers.proofs.Numbered.{numbered_same}
use Rattle.scene_log.proofs.InBytes.{relate_no_record, relate_known}
use Rattle.scene_log.proofs.scene_log_relate.Goals as goal

pub returns-then-carried-lt-RECORD_BYTES : goal.returns-then-carried-lt-RECORD_BYTES
returns-then-carried-lt-RECORD_BYTES c = search relate_no_record

pub returns : goal.returns
returns c = let told = numbered_same _ _ c.answer_number.ensures in
    search relate_known
