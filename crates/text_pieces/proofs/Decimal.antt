-- Numbers in decimal: the digits of each of the three lengths, that there is no LF among them, and that they write the number.
use Prim.Native.Nat.{ℕ, zero, suc, ◌+◌, ◌/◌, ◌%◌, ◌<◌, ◌≤◌}
use mathlib.Core.Path.{◌≡◌, refl, ap}
use mathlib.Core.List.{[], ◌∷◌}
use native.Mathlib.Omega.{arith}
use borrow.Author.Tests.{lt-ltb, le-ltb}
use Rattle.lists.specs.Lists.{bytes}
use Rattle.lists.proofs.Cases.{either_lt}
use Rattle.lists.proofs.Lists.{Free, free_more}
use Rattle.lines.specs.Render.{digits}
use Rattle.lines.proofs.Rendered.{Written, written}
use Rattle.text_pieces.specs.Pieces.{decimal}

pub decimal_one : (n : ℕ) → n < 10 → decimal n ≡ (48 + n % 10) ∷ []
unfolding decimal digits
decimal_one n h = simp (lt-ltb n 10 h) (ap (λ (d : ℕ). d ∷ []) (let e : 48 + n ≡ 48 + n % 10 = omega arith in e))

pub decimal_two : (n : ℕ) → 10 ≤ n → n < 100 → decimal n ≡ (48 + n / 10 % 10) ∷ (48 + n % 10) ∷ []
unfolding decimal digits
decimal_two n h l =
    let m : n / 10 < 10 = omega arith in
    simp (le-ltb n 10 h, lt-ltb (n / 10) 10 m) (ap (λ (d : ℕ). d ∷ (48 + n % 10) ∷ []) (let e : 48 + n / 10 ≡ 48 + n / 10 % 10 = omega arith in e))

pub decimal-three : (n : ℕ) → 100 ≤ n → n ≤ 999 → decimal n ≡ (48 + n / 100 % 10) ∷ (48 + n / 10 % 10) ∷ (48 + n % 10) ∷ []
unfolding decimal digits
decimal-three n h l =
    let a : 10 ≤ n = omega arith in
    let b : 10 ≤ n / 10 = omega arith in
    let c : n / 10 / 10 < 10 = omega arith in
    simp (le-ltb n 10 a, le-ltb (n / 10) 10 b, lt-ltb (n / 10 / 10) 10 c)
    (ap (λ (d : ℕ). d ∷ (48 + n / 10 % 10) ∷ (48 + n % 10) ∷ []) (let e : 48 + n / 10 / 10 ≡ 48 + n / 100 % 10 = omega arith in e))

digits_free : (k n : ℕ) → Free 10 (digits k n)
unfolding digits
digits_free zero n = tt
digits_free (suc k) n =
    either_lt n 10
    (λ h. simp (lt-ltb n 10 h) ((λ e. omega arith), tt))
    (λ h. simp (le-ltb n 10 h) (free_more 10 (digits k (n / 10)) ((48 + n % 10) ∷ []) (digits_free k (n / 10)) ((λ e. omega arith), tt)))

pub decimal_free : (n : ℕ) → Free 10 (decimal n)
unfolding decimal
decimal_free n = digits_free 3 n

-- THE LAW: 0 is `0`, and the digits of 1 to 999 are at most three, the first is not 0, and their value is the number
pub decimal_zero : decimal 0 ≡ bytes "0"
unfolding decimal digits
decimal_zero = refl

pub decimal_written : (n : ℕ) → 0 < n → n ≤ 999 → Written 3 n (decimal n)
unfolding decimal
decimal_written n h l = written 3 n h (omega arith)
