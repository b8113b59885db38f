-- The test as a number.
use borrow.Author.Rules.{rules}
use Rattle.positions.specs.Comparison.{one_below}
use Rattle.positions.proofs.one_below.Goals as goal

pub returns : goal.returns
unfolding one_below
returns c = search rules
