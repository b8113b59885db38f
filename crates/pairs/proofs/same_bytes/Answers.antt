-- The parts in front are compared.
use borrow.Author.Rules.{rules}
use Rattle.pairs.proofs.Match.{front_tells}
use Rattle.pairs.proofs.same_bytes.Goals as goal

pub returns : goal.returns
returns c = front_tells _ _ _ (search rules) (search rules) _ c.eq.ensures
