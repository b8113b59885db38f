-- 1 shifted by the variable's number, which the byte has room for.
use Prim.Native.Nat.{ℕ, ◌*◌, ◌%◌, ◌^◌}
use mathlib.Core.Path.{◌≡◌, ◌∙◌}
use native.Mathlib.Nat.{one-mul}
use native.Mathlib.Omega.{arith}
use lib.Pow.{shl_exact}
use Rattle.shape.proofs.Bits.{bit_digit}
use Rattle.shape.proofs.digit.Goals as goal

pub returns : goal.returns
returns c w = let v : ℕ = c.args.v in
    let e : (1 * 2 ^ v) % 2 ^ 8 ≡ 2 ^ v = shl_exact 1 v 8 (omega arith) (omega arith) ∙ one-mul (2 ^ v) in
    rw e (bit_digit v w)
