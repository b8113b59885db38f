-- A sign of several bytes.
use Prim.Native.Nat.{ℕ, ◌+◌, ◌-◌, ◌≤◌}
use mathlib.Core.Path.{◌≡◌, refl, sym, ap, ◌∙◌}
use mathlib.Core.Bool.{Bool, true, false, not}
use mathlib.Core.Option.{none, some}
use mathlib.Core.List.{List, [], ◌∷◌}
use native.Mathlib.Omega.{arith}
use lib.Dec.{eqb}
use lib.ListN.{length, drop, length-drop}
use lib.Seq.{drop-drop}
use borrow.Author.Tests.{eq-eqb, ne_eqb, not-true, not-false}
use Rattle.std.specs.List.{starts_with, between}
use Rattle.std.proofs.lemmas.Slice.{between_to_end}
use Rattle.lists.proofs.Cases.{either_eq, no_both}
use Rattle.std.specs.Prelude.{Some, None}
use Rattle.signs.specs.Signs.{behind, sign}
use Rattle.signs.specs.Finding.{FindsSign, Behind}

-- the bytes w in front, and what is left behind them
behind_start : (w s : List ℕ) → starts_with eqb s w ≡ true → behind w s ≡ some (drop (length w) s)
behind_start [] s e = refl
behind_start (c ∷ w) [] e = no_both (sym e)
behind_start (c ∷ w) (b ∷ s) e =
    either_eq c b
    (λ q. let e = simp (eq-eqb c b q) at e in simp (eq-eqb b c (sym q)) (behind_start w s e))
    (λ q. let e = simp (ne_eqb c b q) at e in no_both (sym e))

behind_other : (w s : List ℕ) → starts_with eqb s w ≡ false → behind w s ≡ none
behind_other [] s e = no_both e
behind_other (c ∷ w) [] e = refl
behind_other (c ∷ w) (b ∷ s) e =
    either_eq c b
    (λ q. let e = simp (eq-eqb c b q) at e in simp (eq-eqb b c (sym q)) (behind_other w s e))
    (λ q. simp (ne_eqb b c (λ z. q (sym z))) refl)

module _ (s w : List ℕ) (at p : ℕ) (b : Behind s at p) (r : Bool) (q : r ≡ starts_with eqb (between p (length s) s) w) where
  rest : between p (length s) s ≡ drop p s
  rest = between_to_end s p (length s) (omega arith)

  pub word_other : not r ≡ true → FindsSign s at (sign w (drop at s)) None
  unfolding sign
  word_other e =
      let h : starts_with eqb (drop p s) w ≡ false = ap (λ (l : List ℕ). starts_with eqb l w) (sym rest) ∙ (sym q ∙ not-true r e) in
      record { says = rw (b.answer, behind_other w (drop p s) h) tt }

  pub word_found : 1 ≤ length w → not r ≡ false → (r ≡ true → length w ≤ length (between p (length s) s)) → FindsSign s at (sign w (drop at s)) (Some (p + length w))
  unfolding sign
  word_found l e m =
      let h : starts_with eqb (drop p s) w ≡ true = ap (λ (l : List ℕ). starts_with eqb l w) (sym rest) ∙ (sym q ∙ not-false r e) in
      let n : length w ≤ length s - p = omega (arith, m (not-false r e), ap length rest, length-drop p s) in
      record { says = rw (b.answer, behind_start w (drop p s) h) (drop-drop (length w) p s, omega (arith, b.ahead), omega (arith, b.inside)) }
