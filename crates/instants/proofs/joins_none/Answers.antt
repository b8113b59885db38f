use mathlib.Core.Path.{refl}
use Rattle.instants.proofs.Column.{joins_so}
use Rattle.instants.proofs.joins_none.Goals as goal

pub returns-then-joins : goal.returns-then-joins
returns-then-joins c = let n = c.args.lines in joins_so _ n 0 n 0 c.if-joins.true refl refl
