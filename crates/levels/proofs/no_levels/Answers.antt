-- All levels are 0.
use Rattle.levels.proofs.Carried.{levels_none}
use Rattle.levels.proofs.no_levels.Goals as goal

pub returns : goal.returns
returns c = levels_none
