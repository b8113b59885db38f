use Rattle.report.proofs.Pieces.{tally_written}
use Rattle.report.proofs.put_tally.Goals as goal

pub returns : goal.returns
returns c = search tally_written
