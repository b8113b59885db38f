-- The call with a tally is asked of the record that the bytes hold and the tally that the numbers are, and its answer is kept in both.
use Rattle.scene_log.proofs.InBytes.{with_tally_lem}
use Rattle.scene_log.proofs.in_layout.check_line_tallied.Goals as goal

pub returns-then-carried-lt-RECORD_BYTES : goal.returns-then-carried-lt-RECORD_BYTES
returns-then-carried-lt-RECORD_BYTES c = search with_tally_lem

pub returns-then-tally-lt-TALLY_COUNTS : goal.returns-then-tally-lt-TALLY_COUNTS
returns-then-tally-lt-TALLY_COUNTS c = search with_tally_lem

pub returns : goal.returns
returns c = search with_tally_lem
