use lib.Pow.{shl_exact, pow_pos}
use mathlib.Core.Path.{◌≡◌}
use native.Mathlib.Omega.{arith}
use Prim.Native.Nat.{◌*◌, ◌%◌, ◌^◌}
use Rattle.sets.proofs.ones.Goals as goal

-- src/lib.rt:59:5
pub overflow_sub-result : goal.overflow_sub-result
overflow_sub-result c = let k = c.args.k in
    let e : (1 * 2 ^ k) % 2 ^ 64 ≡ 1 * 2 ^ k = shl_exact 1 k 64 (omega arith) (omega arith) in
    rw e (omega (arith, pow_pos k))

-- src/lib.rt:55:1
pub returns : goal.returns
returns c = let k = c.args.k in
    let e : (1 * 2 ^ k) % 2 ^ 64 ≡ 1 * 2 ^ k = shl_exact 1 k 64 (omega arith) (omega arith) in
    rw e (omega arith)
