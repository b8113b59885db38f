-- The tests of bytes, from what comparisons say of a byte.
use Prim.Native.Nat.{ℕ}
use mathlib.Core.Path.{◌≡◌, refl}
use mathlib.Core.Bool.{Bool, true, false, ◌||◌}
use lib.Dec.{eqb}
use borrow.Author.Tests.{eq-eqb, ne_eqb}
use Rattle.std.specs.Char.{is_ascii_alphanumeric}
use Rattle.std.specs.Int.{is_in_range}
use Rattle.signs.specs.Signs.{blank?, word_byte?}

pub blank_space : (b : ℕ) → b ≡ 32 → eqb b 32 ≡ blank? b
unfolding blank?
blank_space b e = simp (eq-eqb b 32 e) refl

pub blank_else : (b : ℕ) → (b ≡ 32 → ⊥) → eqb b 10 ≡ blank? b
unfolding blank?
blank_else b e = simp (ne_eqb b 32 e) refl

digit_last : (d u l : Bool) → (d || u) || l ≡ u || (l || d)
digit_last true true l = refl
digit_last true false true = refl
digit_last true false false = refl
digit_last false true l = refl
digit_last false false true = refl
digit_last false false false = refl

pub word_of : (b : ℕ) → is_ascii_alphanumeric b ≡ word_byte? b
unfolding word_byte?
word_of b = digit_last (is_in_range 48 57 b) (is_in_range 65 90 b) (is_in_range 97 122 b)
