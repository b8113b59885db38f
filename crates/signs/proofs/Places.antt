-- Places in a text: what stands at one, and what is found there.
use Prim.Native.Nat.{ℕ, ◌+◌, ◌<◌, ◌≤◌}
use mathlib.Core.Path.{◌≡◌, refl, sym, ap, ◌∙◌}
use mathlib.Core.Bool.{Bool, true, false, not}
use mathlib.Core.List.{List, [], ◌∷◌}
use native.Mathlib.Omega.{arith}
use native.Mathlib.Numerals.{add-one}
use lib.ListN.{length, get_or, drop, drop_of_length-le}
use lib.Seq.{drop-cons}
use borrow.Author.Tests.{eq-eqb, ne_eqb, not-true, not-false}
use Rattle.std.specs.Prelude.{Some, None}
use Rattle.signs.specs.Signs.{blank?, skip, sign}
use Rattle.signs.specs.Finding.{FindsSign, Behind}

-- the text from a place on, in code's terms
pub step : (s : List ℕ) (i : ℕ) → i < length s → drop i s ≡ get_or s i 0 ∷ drop (i + 1) s
step s i h = rw (add-one, drop-cons s i 0)

module _ (s : List ℕ) (i : ℕ) where
  pub skip_blank : i < length s → blank? (get_or s i 0) ≡ true → skip (drop i s) ≡ skip (drop (i + 1) s)
  unfolding skip
  skip_blank h e = rw (step s i h) (simp e)

  pub skip_sign : i < length s → blank? (get_or s i 0) ≡ false → skip (drop i s) ≡ drop i s
  unfolding skip
  skip_sign h e = rw (step s i h) (simp e)

  pub skip_end : length s ≤ i → skip (drop i s) ≡ drop i s
  unfolding skip
  skip_end h = rw (drop_of_length-le s h)

-- a sign of one byte
module _ (s : List ℕ) (at p c : ℕ) (b : Behind s at p) where
  pub one_found : p < length s → get_or s p 0 ≡ c → FindsSign s at (sign (c ∷ []) (drop at s)) (Some (p + 1))
  unfolding sign
  one_found h e = record { says = rw (b.answer, step s p h, eq-eqb (get_or s p 0) c e) (refl, omega (arith, b.ahead), omega arith) }

  pub one_other : p < length s → (get_or s p 0 ≡ c → ⊥) → FindsSign s at (sign (c ∷ []) (drop at s)) None
  unfolding sign
  one_other h e = record { says = rw (b.answer, step s p h, ne_eqb (get_or s p 0) c e) tt }

  pub one_none : length s ≤ p → FindsSign s at (sign (c ∷ []) (drop at s)) None
  unfolding sign
  one_none h = record { says = rw (b.answer, drop_of_length-le s h) tt }

pub ruleset one-sign = (one_found, one_other, one_none)

-- the loop over spaces and LFs
module _ (s : List ℕ) (at i : ℕ) (v : skip (drop at s) ≡ skip (drop i s)) where
  pub passed_blank : i < length s → (b : Bool) → b ≡ blank? (get_or s i 0) → not b ≡ false → skip (drop at s) ≡ skip (drop (i + 1) s)
  passed_blank h b q e = v ∙ skip_blank s i h (sym q ∙ not-false b e)

  pub at_sign : at ≤ i → i < length s → (b : Bool) → b ≡ blank? (get_or s i 0) → not b ≡ true → Behind s at i
  at_sign a h b q e = record { answer = v ∙ skip_sign s i h (sym q ∙ not-true b e); ahead = a; inside = omega arith }

  pub at_end : at ≤ length s → length s ≤ i → i ≤ length s → Behind s at (length s)
  at_end a h l =
      let e : i ≡ length s = omega arith in
      record { answer = v ∙ (skip_end s i h ∙ ap (λ (j : ℕ). drop j s) e); ahead = a; inside = omega arith }
