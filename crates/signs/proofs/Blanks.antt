-- Blanks are passed once: behind them stands the same sign, and no blank.
use Prim.Native.Nat.{ℕ, suc, ◌+◌, ◌<◌, ◌≤◌}
use mathlib.Core.Path.{◌≡◌, refl, sym, ap, ◌∙◌}
use mathlib.Core.Option.{none, some}
use mathlib.Core.List.{List, [], ◌∷◌}
use native.Mathlib.Omega.{arith}
use lib.Dec.{eqb}
use lib.ListN.{length, drop, length-drop}
use lib.Seq.{drop-drop}
use Rattle.lists.proofs.Cases.{either_bool, never}
use Rattle.signs.specs.Signs.{blank?, skip, behind, sign}
use Rattle.signs.specs.Finding.{Behind}

pub skip-again : (s : List ℕ) → skip (skip s) ≡ skip s
unfolding skip
skip-again [] = refl
skip-again (b ∷ s) = either_bool (blank? b) (λ e. simp e (skip-again s)) (λ e. simp e)

-- blanks are the first bytes
skip-drop : (s : List ℕ) → (n : ℕ) × (skip s ≡ drop n s) × (n ≤ length s)
unfolding skip
skip-drop [] = (0, refl, omega arith)
skip-drop (b ∷ s) =
    let x = skip-drop s in
    either_bool (blank? b) (λ e. (suc x.0, simp e x.1, omega (arith, x.2))) (λ e. (0, simp e, omega arith))

module _ (text : List ℕ) (at p : ℕ) (z : Behind text at p) where
  pub behind-again : Behind text p p
  behind-again = record { answer = ap skip (sym z.answer) ∙ (skip-again (drop at text) ∙ z.answer); ahead = omega arith; inside = z.inside }

  pub sign_behind : (w : List ℕ) → sign w (drop p text) ≡ sign w (drop at text)
  unfolding sign
  sign_behind w = ap (behind w) (behind-again.answer ∙ sym z.answer)

-- the place behind the blanks
pub behind_of : (text : List ℕ) (at : ℕ) → at ≤ length text → (p : ℕ) × Behind text at p
behind_of text at h =
    let x = skip-drop (drop at text) in
    (at + x.0, record { answer = x.1 ∙ drop-drop x.0 at text; ahead = omega arith; inside = omega (arith, x.2, length-drop at text) })

-- a sign of one byte takes room
skip-less : (s : List ℕ) → length (skip s) ≤ length s
unfolding skip
skip-less [] = omega arith
skip-less (b ∷ s) = either_bool (blank? b) (λ e. simp e (omega (arith, skip-less s))) (λ e. simp e (omega arith))

first_less : (c : ℕ) (s r : List ℕ) → behind (c ∷ []) s ≡ some r → length r < length s
first_less c [] r e = never (let z : ◌≡◌ {A = ℕ} 0 1 = cc in z)
first_less c (b ∷ s) r e =
    either_bool (eqb b c)
    (λ q. let z : some s ≡ some r = simp q at e in let y : s ≡ r = cc in omega (arith, ap length y))
    (λ q. let z : none ≡ some r = simp q at e in never (let y : ◌≡◌ {A = ℕ} 0 1 = cc in y))

pub sign_less : (c : ℕ) (s r : List ℕ) → sign (c ∷ []) s ≡ some r → length r < length s
unfolding sign
sign_less c s r e = omega (arith, first_less c (skip s) r e, skip-less s)
