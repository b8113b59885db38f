use mathlib.Core.Bool.{false}
use Rattle.sets.specs.Sets.{mem}
use Rattle.sets.proofs.Sets.{least_low, least_high, up_law, none_up, mem_none}
use lib.Count.{trailing_le}
use mathlib.Core.Path.{◌≡◌, sym, ◌∙◌}
use native.Mathlib.Omega.{arith}
use Prim.Native.Nat.{ℕ}
use Rattle.sets.proofs.upward.Goals as goal

-- src/lib.rt:87:26
pub overflow_cast-s : goal.overflow_cast-s
overflow_cast-s c = record { fits = omega (arith, trailing_le 64 c.args.s.lo) }

-- src/lib.rt:87:9
pub from-requires : goal.from-requires
from-requires c = omega (arith, trailing_le 64 c.args.s.lo)

-- src/lib.rt:89:31
pub overflow_cast-s-then-s-ne0-2 : goal.overflow_cast-s-then-s-ne0-2
overflow_cast-s-then-s-ne0-2 c = record { fits = omega (arith, trailing_le 64 c.args.s.hi) }

-- src/lib.rt:89:26
pub overflow_add-s : goal.overflow_add-s
overflow_add-s c = record { fits = omega (arith, trailing_le 64 c.args.s.hi) }

-- src/lib.rt:89:9
pub from-requires-then-s-ne0-2 : goal.from-requires-then-s-ne0-2
from-requires-then-s-ne0-2 c = omega (arith, trailing_le 64 c.args.s.hi)

-- src/lib.rt:83:1
pub returns-then-s-ne0 : goal.returns-then-s-ne0
returns-then-s-ne0 c j l = let s = c.args.s in
    up_law _ _ _ j _ l (c.from.ensures j) (c.below.ensures j) (least_low s (omega arith) (omega arith) j)

-- src/lib.rt:83:1
pub returns-then-s-ne0-2 : goal.returns-then-s-ne0-2
returns-then-s-ne0-2 c j l = let s = c.args.s in
    up_law _ _ _ j _ l (c.from-then-s-ne0-2.ensures j) (c.below-then-s-ne0-2.ensures j) (least_high s (omega arith) (omega arith) (omega arith) j)

-- src/lib.rt:83:1
pub returns-else-s-ne0-2 : goal.returns-else-s-ne0-2
returns-else-s-ne0-2 c j l = let s = c.args.s in
    let e : (i : ℕ) → mem s i ≡ false = mem_none s (omega arith) (omega arith) in
    e j ∙ sym (none_up (mem s) e j)
