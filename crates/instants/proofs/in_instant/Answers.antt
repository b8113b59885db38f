use Rattle.instants.proofs.Column.{joins_so}
use Rattle.instants.proofs.in_instant.Goals as goal

pub returns-then-joins : goal.returns-then-joins
returns-then-joins c = joins_so _ _ _ _ _ c.if-joins.true c.instant_in-a.ensures c.instant_in-b.ensures
