-- The variable's place is set, the others stay.
use Rattle.levels.proofs.Carried.{levels_set}
use borrow.Author.Rules.{rules}
use Rattle.levels.proofs.entered.Goals as goal

pub returns : goal.returns
returns c = levels_set c.args.levels.of c.args.v c.args.d (search rules)
