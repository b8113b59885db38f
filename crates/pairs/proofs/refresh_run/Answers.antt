-- The bytes with the runs before it and those with the runs after it are what a refresh is.
use Rattle.pairs.proofs.Refreshed.{refreshes}
use Rattle.pairs.proofs.refresh_run.Goals as goal

pub returns : goal.returns
returns c = search refreshes
