-- The first quote from a place on, and a label between two.
use Prim.Native.Nat.{ℕ, ◌+◌, ◌-◌, ◌<◌, ◌≤◌}
use mathlib.Core.Path.{◌≡◌, sym, ◌∙◌}
use mathlib.Core.Bool.{true, false}
use mathlib.Core.List.{List, [], ◌∷◌}
use native.Mathlib.Omega.{arith}
use lib.ListN.{length, get_or, drop, drop_of_length-le, length-drop}
use borrow.Author.Tests.{eq-eqb, ne_eqb}
use Rattle.std.specs.Prelude.{Some, None}
use Rattle.lists.specs.Lists.{has?, past}
use Rattle.signs.specs.Signs.{sign, label}
use Rattle.signs.specs.Finding.{FindsSign, ReadsWord, FindsQuote}
use Rattle.signs.proofs.Places.{step}
use Rattle.signs.proofs.Told.{found_sign, no_sign}

-- no quote stands between the two places
abbrev pub Unquoted : List ℕ → ℕ → ℕ → Type 0
Unquoted s at i = (has? 39 (drop at s) ≡ has? 39 (drop i s)) × (past 39 (drop at s) ≡ past 39 (drop i s)) × (at ≤ i) × (i ≤ length s)

module _ (s : List ℕ) (at i : ℕ) (v : Unquoted s at i) where
  pub quote_found : i < length s → get_or s i 0 ≡ 39 → FindsQuote s at (Some (i + 1))
  quote_found h e =
      let a : has? 39 (drop i s) ≡ true = rw (step s i h) (simp (eq-eqb (get_or s i 0) 39 e)) in
      let b : past 39 (drop i s) ≡ drop (i + 1) s = rw (step s i h) (simp (eq-eqb (get_or s i 0) 39 e)) in
      (v.0 ∙ a, v.1 ∙ b, omega (arith, v.2), omega arith)

  pub quote_passed : i < length s → (get_or s i 0 ≡ 39 → ⊥) → Unquoted s at (i + 1)
  quote_passed h e =
      let a : has? 39 (drop i s) ≡ has? 39 (drop (i + 1) s) = rw (step s i h) (simp (ne_eqb (get_or s i 0) 39 e)) in
      let b : past 39 (drop i s) ≡ past 39 (drop (i + 1) s) = rw (step s i h) (simp (ne_eqb (get_or s i 0) 39 e)) in
      (v.0 ∙ a, v.1 ∙ b, omega (arith, v.2), omega arith)

  pub quote_none : length s ≤ i → FindsQuote s at None
  quote_none h =
      let a : has? 39 (drop i s) ≡ false = rw (drop_of_length-le s h) in
      v.0 ∙ a

-- ── a label ──
module _ (s : List ℕ) (at : ℕ) where
  pub label_none : FindsSign s at (sign (39 ∷ []) (drop at s)) None → ReadsWord s at (label (drop at s)) None
  unfolding label
  label_none x = record { says = rw (no_sign s at (sign (39 ∷ []) (drop at s)) x) tt }

  module _ (p : ℕ) (x : FindsSign s at (sign (39 ∷ []) (drop at s)) (Some p)) where
    pub label_open : FindsQuote s p None → ReadsWord s at (label (drop at s)) None
    unfolding label
    label_open y = let g = found_sign s at (sign (39 ∷ []) (drop at s)) p x in record { says = rw (g.0, y) tt }

    pub label_read : (q : ℕ) → FindsQuote s p (Some q) → ReadsWord s at (label (drop at s)) (Some (record { value = length s - p; at = q }))
    unfolding label
    label_read q y =
        let g = found_sign s at (sign (39 ∷ []) (drop at s)) p x in
        record { says = rw (g.0, y.0) (sym (length-drop p s), y.1, omega (arith, g.1, y.2), omega (arith, y.3)) }
