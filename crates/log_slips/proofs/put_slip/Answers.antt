-- The pieces in a row are the line.
use Rattle.log_slips.proofs.Runs.{slip_written}
use Rattle.log_slips.proofs.put_slip.Goals as goal

pub returns : goal.returns
returns c = search slip_written
