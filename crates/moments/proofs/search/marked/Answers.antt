-- The shifted 1 is the bit of variable v.
use Prim.Native.Nat.{◌*◌, ◌%◌, ◌^◌}
use mathlib.Core.Path.{◌≡◌}
use native.Mathlib.Omega.{arith}
use lib.Pow.{shl_exact}
use Rattle.moments.proofs.Masks.{marked_mask}
use Rattle.moments.proofs.search.marked.Goals as goal

pub returns : goal.returns
returns c = let v = c.args.v in
    let e : (1 * 2 ^ v) % 2 ^ 8 ≡ 1 * 2 ^ v = shl_exact 1 v 8 (omega arith) (omega arith) in
    marked_mask _ v _ (omega arith)
