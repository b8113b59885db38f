-- The masks have no bit in common.
use native.Mathlib.Omega.{arith}
use Rattle.moments.proofs.Masks.{apart_tells}
use Rattle.moments.proofs.search.apart.Goals as goal

pub returns : goal.returns
returns c = apart_tells _ _ (omega arith)
