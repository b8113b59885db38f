-- The two bytes are copied over those at the place.
use Prim.Native.Nat.{ℕ, ◌/◌, ◌%◌}
use mathlib.Core.Path.{◌≡◌, ap, ◌∙◌}
use mathlib.Core.List.{[], ◌∷◌}
use native.Mathlib.Omega.{arith}
use Rattle.record_bytes.specs.Form.{u16_bytes}
use Rattle.record_bytes.proofs.Joined.{stored_part}
use Rattle.record_bytes.proofs.write.put_u16.Goals as goal

pub returns : goal.returns
unfolding u16_bytes
returns c = let n : ℕ = c.args.n in
    let high : n / 256 % 256 ≡ n / 256 = omega arith in
    stored_part _ (u16_bytes n) _ _ _ (c.copy_from_slice.ensures.after ∙ c.to_le_bytes.ensures ∙ ap (λ (b : ℕ). n % 256 ∷ b ∷ []) high) (omega arith) (omega arith)
