-- Each choice is one of those that `lines_set` makes.
use Rattle.pairs.proofs.Pairs.{chosen}
use Rattle.pairs.proofs.set_of.Goals as goal

pub returns : goal.returns
returns c = search chosen
