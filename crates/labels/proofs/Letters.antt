-- Which bytes a label has, by the tests that tell.
use Prim.Native.Nat.{ℕ, ◌<◌, ◌≤◌}
use mathlib.Core.Path.{◌≡◌, sym}
use mathlib.Core.Bool.{true, false}
use native.Mathlib.Omega.{arith}
use borrow.Author.Tests.{eq-eqb, ne_eqb, le-leb, lt-leb}
use Rattle.lists.proofs.Cases.{either_lt, no_both}
use Rattle.labels.specs.Label.{digit?, letter?}

module _ (b : ℕ) where
  pub letter-1 : b < 48 → false ≡ letter? b
  unfolding letter? digit?
  letter-1 h = simp (lt-leb 65 b (omega arith), lt-leb 48 b h, ne_eqb b 95 (λ e. omega arith))

  pub letter-2 : 48 ≤ b → b ≤ 57 → true ≡ letter? b
  unfolding letter? digit?
  letter-2 h k = simp (lt-leb 65 b (omega arith), le-leb 48 b h, le-leb b 57 k)

  pub letter-3 : 57 < b → b < 65 → false ≡ letter? b
  unfolding letter? digit?
  letter-3 h k = simp (lt-leb 65 b k, le-leb 48 b (omega arith), lt-leb b 57 h, ne_eqb b 95 (λ e. omega arith))

  pub letter-4 : 65 ≤ b → b ≤ 90 → true ≡ letter? b
  unfolding letter? digit?
  letter-4 h k = simp (le-leb 65 b h, le-leb b 90 k)

  pub letter-5 : b ≡ 95 → true ≡ letter? b
  unfolding letter? digit?
  letter-5 e = simp (le-leb 65 b (omega arith), lt-leb b 90 (omega arith), le-leb 48 b (omega arith), lt-leb b 57 (omega arith), eq-eqb b 95 e)

  pub letter-6 : 90 < b → (b ≡ 95 → ⊥) → false ≡ letter? b
  unfolding letter? digit?
  letter-6 h n = simp (le-leb 65 b (omega arith), lt-leb b 90 (omega arith), le-leb 48 b (omega arith), lt-leb b 57 (omega arith), ne_eqb b 95 n)

pub ruleset letters = (letter-1, letter-2, letter-3, letter-4, letter-5, letter-6)

pub letter_range : (b : ℕ) → letter? b ≡ true → (48 ≤ b) × (b ≤ 95)
unfolding letter? digit?
letter_range b e =
    either_lt b 48
    (λ h. let f : false ≡ true = simp (lt-leb 65 b (omega arith), lt-leb 48 b h, ne_eqb b 95 (λ q. omega arith)) at e in no_both (sym f))
    (λ h. either_lt 95 b
    (λ k. let f : false ≡ true = simp (le-leb 65 b (omega arith), lt-leb b 90 (omega arith), le-leb 48 b h, lt-leb b 57 (omega arith), ne_eqb b 95 (λ q. omega arith)) at e in no_both (sym f))
    (λ k. (h, k)))
