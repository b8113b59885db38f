-- The arm says whether the byte is a small letter.
use native.Mathlib.Omega.{arith}
use Rattle.labels.proofs.Capitals.{capital_low, capital_high, capital-small}
use Rattle.labels.proofs.capital_byte.Goals as goal

pub returns-in-97-to-122 : goal.returns-in-97-to-122
returns-in-97-to-122 c = capital-small _ (omega arith) (omega arith)

pub returns-in_default : goal.returns-in_default
returns-in_default c = capital_low _ (omega arith)

pub returns-in_default-2 : goal.returns-in_default-2
returns-in_default-2 c = capital_high _ (omega arith)
