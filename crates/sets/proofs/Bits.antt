-- The digits of a word, and what the operations on words do to them.
use mathlib.Core.Path.{◌≡◌, refl, sym, ap, ◌∙◌}
use mathlib.Core.Bool.{Bool, true, false, not, ◌&&◌, ◌||◌, true≢false}
use Prim.Native.Nat.{ℕ, zero, suc, ◌+◌, ◌-◌, ◌*◌, ◌/◌, ◌%◌, ◌^◌, ◌≤◌, ◌<◌}
use native.Mathlib.Nat.{mod-lt, zero-lt-suc, pow-suc, lt_of_lt_of_le, add_comm, zero-div, div-eq_of_lt, div-one, mul_comm, mul-one}
use native.Mathlib.Omega.{arith}
use native.Mathlib.Numerals.{add-one}
use lib.Dec.{ltb, eqb}
use lib.Pow.{pow_pos, pow_mono, high, shr-shr, ones_split, ones_lt, shl-shr}
use lib.Bits.{bit_and, bit_or, bit_xor, and_shr, or_shr, xor_shr, and_mod, or_mod, xor_mod}
use lib.Arith.{dbl_pred, digits_mod}
use lib.Count.{count_trailing_zeros, under}
use borrow.Author.Tests.{ltb-true, ltb-false}
use Rattle.sets.specs.Sets.{bit}

-- an operation that goes digit by digit
module _ (op : ℕ → ℕ → ℕ) (f : Bool → Bool → Bool)
    (shr : (a b k : ℕ) → op a b / 2 ^ k ≡ op (a / 2 ^ k) (b / 2 ^ k))
    (low : (a b k : ℕ) → op a b % 2 ^ k ≡ op (a % 2 ^ k) (b % 2 ^ k))
    (one : (x y : ℕ) → x < 2 → y < 2 → eqb (op x y) 1 ≡ f (eqb x 1) (eqb y 1)) where
  bit_op : (a b i : ℕ) → bit (op a b) i ≡ f (bit a i) (bit b i)
  unfolding bit
  bit_op a b i =
      ap (λ (n : ℕ). eqb (n % 2) 1) (shr a b i) ∙ ap (λ (n : ℕ). eqb n 1) (low (a / 2 ^ i) (b / 2 ^ i) 1)
      ∙ one (a / 2 ^ i % 2) (b / 2 ^ i % 2) (mod-lt (a / 2 ^ i) (zero-lt-suc 1)) (mod-lt (b / 2 ^ i) (zero-lt-suc 1))

one_and : (x y : ℕ) → x < 2 → y < 2 → eqb (bit_and x y) 1 ≡ (eqb x 1 && eqb y 1)
one_and zero zero p q = refl
one_and zero (suc zero) p q = refl
one_and (suc zero) zero p q = refl
one_and (suc zero) (suc zero) p q = refl
one_and (suc (suc x)) y p q = absurd (omega arith)
one_and zero (suc (suc y)) p q = absurd (omega arith)
one_and (suc zero) (suc (suc y)) p q = absurd (omega arith)

one_or : (x y : ℕ) → x < 2 → y < 2 → eqb (bit_or x y) 1 ≡ (eqb x 1 || eqb y 1)
one_or zero zero p q = refl
one_or zero (suc zero) p q = refl
one_or (suc zero) zero p q = refl
one_or (suc zero) (suc zero) p q = refl
one_or (suc (suc x)) y p q = absurd (omega arith)
one_or zero (suc (suc y)) p q = absurd (omega arith)
one_or (suc zero) (suc (suc y)) p q = absurd (omega arith)

abbrev pub unlike : Bool → Bool → Bool
unlike true b = not b
unlike false b = b

one_xor : (x y : ℕ) → x < 2 → y < 2 → eqb (bit_xor x y) 1 ≡ unlike (eqb x 1) (eqb y 1)
one_xor zero zero p q = refl
one_xor zero (suc zero) p q = refl
one_xor (suc zero) zero p q = refl
one_xor (suc zero) (suc zero) p q = refl
one_xor (suc (suc x)) y p q = absurd (omega arith)
one_xor zero (suc (suc y)) p q = absurd (omega arith)
one_xor (suc zero) (suc (suc y)) p q = absurd (omega arith)

pub bit-and : (a b i : ℕ) → bit (bit_and a b) i ≡ (bit a i && bit b i)
bit-and = bit_op bit_and ◌&&◌ and_shr and_mod one_and

pub bit-or : (a b i : ℕ) → bit (bit_or a b) i ≡ (bit a i || bit b i)
bit-or = bit_op bit_or ◌||◌ or_shr or_mod one_or

pub bit_xor_lem : (a b i : ℕ) → bit (bit_xor a b) i ≡ unlike (bit a i) (bit b i)
bit_xor_lem = bit_op bit_xor unlike xor_shr xor_mod one_xor

less : (x y : Bool) → unlike x (x && y) ≡ (x && not y)
less true y = refl
less false y = refl

pub bit-less : (a b i : ℕ) → bit (bit_xor a (bit_and a b)) i ≡ (bit a i && not (bit b i))
bit-less a b i = bit_xor_lem a (bit_and a b) i ∙ ap (unlike (bit a i)) (bit-and a b i) ∙ less (bit a i) (bit b i)

pub bit_zero : (i : ℕ) → bit 0 i ≡ false
unfolding bit
bit_zero i = rw (zero-div (2 ^ i))

odd_ones : (d : ℕ) → (2 ^ suc d - 1) % 2 ≡ 1
odd_ones d = ap (λ (x : ℕ). (x - 1) % 2) (pow-suc 2 d) ∙ ap (λ (x : ℕ). x % 2) (dbl_pred (pow_pos d)) ∙ digits_mod (2 ^ d - 1) (omega arith)

pub bit_ones : (k j : ℕ) → bit (2 ^ k - 1) j ≡ ltb j k
unfolding bit
bit_ones k j = go (ltb j k) refl
  where
    within : (d : ℕ) → k ≡ suc d + j → eqb ((2 ^ k - 1) / 2 ^ j % 2) 1 ≡ true
    within d e = rw (e, ones_split (suc d) j, high (2 ^ suc d - 1) j (ones_lt j), odd_ones d)

    go : (b : Bool) → ltb j k ≡ b → eqb ((2 ^ k - 1) / 2 ^ j % 2) 1 ≡ b
    go true e = let l = ltb-true j k e in within (k - j - 1) (omega arith)
    go false e = let l = ltb-false j k e in rw (div-eq_of_lt (lt_of_lt_of_le (ones_lt k) (pow_mono l)))

pub bit_suc : (q i : ℕ) → bit q (suc i) ≡ bit (q / 2) i
unfolding bit
bit_suc q i = ap (λ (x : ℕ). eqb (q / 2 ^ x % 2) 1) (sym (add-one i) ∙ add_comm i 1) ∙ ap (λ (x : ℕ). eqb (x % 2) 1) (sym (shr-shr q 1 i))

bit_first : (q : ℕ) → bit q zero ≡ eqb (q % 2) 1
unfolding bit
bit_first q = rw (div-one q)

-- the lowest digit that is 1
pub bit_trailing : (d q : ℕ) → 0 < q → q < 2 ^ d → bit q (count_trailing_zeros d q) ≡ true
unfolding count_trailing_zeros
bit_trailing zero q p h = absurd (omega arith)
bit_trailing (suc d) q p h = go (q % 2) refl (mod-lt q (zero-lt-suc 1)) (bit_trailing d (q / 2))
  where
    go : (r : ℕ) → q % 2 ≡ r → r < 2 → (0 < q / 2 → q / 2 < 2 ^ d → bit (q / 2) (count_trailing_zeros d (q / 2)) ≡ true) → bit q (under r (count_trailing_zeros d (q / 2))) ≡ true
    go zero e l ih = let g : q < 2 ^ d * 2 = rw (← pow-suc 2 d) h in bit_suc q (count_trailing_zeros d (q / 2)) ∙ ih (omega arith) (omega arith)
    go (suc zero) e l ih = bit_first q ∙ ap (λ (x : ℕ). eqb x 1) e
    go (suc (suc r)) e l ih = absurd (omega arith)

pub bit_under_trailing : (d q i : ℕ) → i < count_trailing_zeros d q → bit q i ≡ false
unfolding count_trailing_zeros
bit_under_trailing zero q i h = absurd (omega arith)
bit_under_trailing (suc d) q i h = go (q % 2) refl i h (bit_under_trailing d (q / 2))
  where
    go : (r : ℕ) → q % 2 ≡ r → (i : ℕ) → i < under r (count_trailing_zeros d (q / 2)) → ((i : ℕ) → i < count_trailing_zeros d (q / 2) → bit (q / 2) i ≡ false) → bit q i ≡ false
    go zero e zero l ih = bit_first q ∙ ap (λ (x : ℕ). eqb x 1) e
    go zero e (suc i) l ih = bit_suc q i ∙ ih i (omega arith)
    go (suc r) e i l ih = absurd (omega arith)

pub bit_high : (q k j : ℕ) → q < 2 ^ k → k ≤ j → bit q j ≡ false
unfolding bit
bit_high q k j h l = rw (div-eq_of_lt (lt_of_lt_of_le h (pow_mono l)))

pub trailing_lt : (d q : ℕ) → 0 < q → q < 2 ^ d → count_trailing_zeros d q < d
trailing_lt d q p h = go (ltb (count_trailing_zeros d q) d) refl
  where
    go : (b : Bool) → ltb (count_trailing_zeros d q) d ≡ b → count_trailing_zeros d q < d
    go true e = ltb-true (count_trailing_zeros d q) d e
    go false e = absurd (true≢false (sym (bit_trailing d q p h) ∙ bit_high q d (count_trailing_zeros d q) h (ltb-false (count_trailing_zeros d q) d e)))

pub bit_self : (v : ℕ) → bit (2 ^ v) v ≡ true
unfolding bit
bit_self v = ap (λ (x : ℕ). eqb (x / 2 ^ v % 2) 1) (sym (mul_comm 1 (2 ^ v) ∙ mul-one (2 ^ v))) ∙ ap (λ (x : ℕ). eqb (x % 2) 1) (shl-shr 1 v)
