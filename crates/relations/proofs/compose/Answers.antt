-- A set above 63 is refused. Otherwise the place 64 × first + second gives both sets back, and the table has their composition there.
use native.Mathlib.Omega.{arith}
use Rattle.relations.proofs.Demand.{composed, first_no_set, second_no_set}
use Rattle.relations.proofs.compose.Goals as goal

pub returns-then-a-gt-ALL : goal.returns-then-a-gt-ALL
returns-then-a-gt-ALL c = first_no_set _ _ (omega arith)

pub returns-then-b-gt-ALL : goal.returns-then-b-gt-ALL
returns-then-b-gt-ALL c = second_no_set _ _ (omega arith) (omega arith)

pub returns : goal.returns
returns c = composed _ _ _ _ (omega arith) (omega arith) (omega arith) c.entry.ensures
