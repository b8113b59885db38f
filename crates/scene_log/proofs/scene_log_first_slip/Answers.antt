-- 20 for a buffer that is too short; then what is answered for the record that the bytes hold.
use Rattle.slip_bytes.proofs.Few.{slip_few, found_same}
use Rattle.scene_log.proofs.Slips.{find_no_record, find_no_room, find_known}
use borrow.Author.Rules.{rules}
use Rattle.scene_log.proofs.scene_log_first_slip.Goals as goal

pub returns-then-carried-lt-RECORD_BYTES : goal.returns-then-carried-lt-RECORD_BYTES
returns-then-carried-lt-RECORD_BYTES c = search find_no_record

pub returns-then-slip-lt-SLIP_BYTES : goal.returns-then-slip-lt-SLIP_BYTES
returns-then-slip-lt-SLIP_BYTES c = search find_no_room

pub keep_slip-requires : goal.keep_slip-requires
keep_slip-requires c = search (rules, slip_few)

pub returns : goal.returns
returns c = let told = found_same _ _ _ c.keep_slip.ensures in
    search find_known
