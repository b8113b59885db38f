-- The byte looks at three lines of the two runs.
use Rattle.pairs.proofs.Pairs.{by_lines}
use Rattle.pairs.proofs.pair_byte.Goals as goal

pub returns : goal.returns
returns c = search by_lines
