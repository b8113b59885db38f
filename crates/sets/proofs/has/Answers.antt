use Rattle.sets.proofs.Sets.{mem_low, mem_high}
use Rattle.sets.specs.Sets.{bit}
use mathlib.Core.Path.{sym}
use native.Mathlib.Omega.{arith}
use Rattle.sets.proofs.has.Goals as goal

-- src/lib.rt:43:1
pub returns-then-i-lt64 : goal.returns-then-i-lt64
unfolding bit
returns-then-i-lt64 c = sym (mem_low _ _ (omega arith))

-- src/lib.rt:43:1
pub returns-else-i-lt64 : goal.returns-else-i-lt64
unfolding bit
returns-else-i-lt64 c = sym (mem_high _ _ (omega arith))
