-- A short work area is left as it is; otherwise it holds the bytes of no runs.
use Rattle.pairs.proofs.Starts.{starts}
use Rattle.pairs.proofs.start_record.Goals as goal

pub returns-then-work-end : goal.returns-then-work-end
returns-then-work-end c = search starts

pub returns : goal.returns
returns c = search starts
