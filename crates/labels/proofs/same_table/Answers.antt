-- The labels, the places and the counts decide.
use Rattle.labels.proofs.Same.{table_tells}
use Rattle.labels.proofs.same_table.Goals as goal

pub returns : goal.returns
returns c = table_tells _ _ _ c.eq.ensures
