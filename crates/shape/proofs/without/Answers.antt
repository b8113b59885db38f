-- Digit by digit.
use Rattle.sets.proofs.Bits.{bit-less}
use Rattle.shape.proofs.without.Goals as goal

pub returns : goal.returns
returns c = bit-less _ _
