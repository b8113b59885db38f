-- What a sign says of two numbers, and which sign they have.
use Prim.Native.Nat.{ℕ, ◌<◌, ◌≤◌}
use mathlib.Core.Path.{◌≡◌}
use native.Mathlib.Omega.{arith}
use borrow.Author.Tests.{lt-ltb, le-ltb}
use Rattle.lists.proofs.Cases.{either_lt}
use Rattle.positions.specs.Comparison.{sign_of}

pub sign_below : (a b : ℕ) → a < b → sign_of a b ≡ 0
unfolding sign_of
sign_below a b h = simp (lt-ltb a b h)

pub sign_above : (a b : ℕ) → b < a → sign_of a b ≡ 2
unfolding sign_of
sign_above a b h = let k : b ≤ a = omega arith in simp (le-ltb a b k, lt-ltb b a h)

pub sign_same : (a b : ℕ) → a ≤ b → b ≤ a → sign_of a b ≡ 1
unfolding sign_of
sign_same a b h k = simp (le-ltb a b k, le-ltb b a h)

-- the order of two numbers whose sign is n
pub record Signed (a b n : ℕ) : Type 0 where
  pub at_most : n ≤ 2
  pub below : n ≡ 0 → a < b
  pub is_below : a < b → n ≡ 0
  pub above : n ≡ 2 → b < a
  pub is_above : b < a → n ≡ 2

pub signed : (a b n : ℕ) → n ≡ sign_of a b → Signed a b n
signed a b n e =
    let below = sign_below a b in
    let above = sign_above a b in
    let same = sign_same a b in
    let all : (n ≤ 2) × (n ≡ 0 → a < b) × (a < b → n ≡ 0) × (n ≡ 2 → b < a) × (b < a → n ≡ 2) =
    either_lt a b (λ h. omega (arith, below h))
    (λ h. either_lt b a (λ k. omega (arith, above k)) (λ k. omega (arith, same k h))) in
    record { at_most = all.0; below = all.1; is_below = all.2; above = all.3; is_above = all.4 }
