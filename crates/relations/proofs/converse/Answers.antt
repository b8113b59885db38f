-- The bits of 21 are those of before, overlaps and includes, and their converses stand one higher; the bits of 42 go back.
use native.Mathlib.Omega.{arith}
use lib.Bits.{and_le_r}
use Rattle.relations.proofs.Sets.{converse_bits, conversed, not_conversed}
use Rattle.relations.proofs.converse.Goals as goal

pub returns-then-c-gt-ALL : goal.returns-then-c-gt-ALL
returns-then-c-gt-ALL c = not_conversed _ (omega arith)

pub overflow_mul-result : goal.overflow_mul-result
overflow_mul-result c = omega (arith, and_le_r c.args.c 21)

pub overflow_add-result : goal.overflow_add-result
overflow_add-result c = omega (arith, and_le_r c.args.c 21, and_le_r c.args.c 42)

pub returns : goal.returns
returns c = conversed _ _ (omega arith) (converse_bits _ (omega arith))
