use Rattle.sets.proofs.Sets.{mem_below_low, mem_below_high}
use native.Mathlib.Omega.{arith}
use mathlib.Core.Path.{◌≡◌, refl}
use Rattle.sets.proofs.below.Goals as goal

-- src/lib.rt:62:1
pub returns-then-k-lt64 : goal.returns-then-k-lt64
returns-then-k-lt64 c j = mem_below_low _ _ (omega arith) c.ones.ensures j

-- src/lib.rt:62:1
pub returns-then-k-lt128 : goal.returns-then-k-lt128
returns-then-k-lt128 c j = mem_below_high _ _ (omega arith) c.ones-then-k-lt128.ensures j

-- src/lib.rt:62:1
pub returns-else-k-lt128 : goal.returns-else-k-lt128
returns-else-k-lt128 c j = let e : c.args.k ≡ 128 = omega arith in
    rw e (mem_below_high 128 18446744073709551615 (omega arith) refl j)
