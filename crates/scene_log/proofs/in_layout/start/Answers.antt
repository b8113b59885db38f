-- Both lengths are looked at before anything is written: the record's here, the work area's at its start.
use Rattle.answer_numbers.proofs.Numbered.{refusal_same}
use Rattle.scene_log.proofs.InBytes.{starts}
use Rattle.scene_log.proofs.in_layout.start.Goals as goal

pub returns-then-carried-lt-RECORD_BYTES : goal.returns-then-carried-lt-RECORD_BYTES
returns-then-carried-lt-RECORD_BYTES c = search starts

pub returns-in-Err : goal.returns-in-Err
returns-in-Err c = let told = refusal_same _ _ c.refusal_number.ensures in
    search starts

pub returns-in-Ok : goal.returns-in-Ok
returns-in-Ok c = search starts
