-- The word `full`, byte by byte.
use Prim.Native.Nat.{ℕ}
use mathlib.Core.Path.{◌≡◌, refl, ap, sym, ◌∙◌}
use mathlib.Core.Logic.{◌↔◌}
use mathlib.Core.Bool.{Bool, true, false, cond, ◌&&◌}
use mathlib.Core.List.{List, [], ◌∷◌}
use native.Mathlib.Omega.{arith}
use lib.Dec.{eqb}
use lib.ListN.{length, get_or}
use borrow.Author.Tests.{eq-eqb}
use Rattle.lists.specs.Lists.{bytes, same?}
use Rattle.lists.proofs.Cases.{either_bool}
use Rattle.lists.proofs.Lists.{same_eq, same_refl}
use Rattle.whole_log.specs.declared.Mode.{Mode}
use Rattle.whole_log.specs.declared.Mode.TheVariants.{FirstFailure, Full}
use Rattle.whole_log.proofs.Part.{not_full}
use Rattle.log_check.specs.Printed.{mode_said}

-- THE LAW: it alone names the full mode
pub full_said : (word : List ℕ) → (mode_said word ≡ Full) ↔ (word ≡ bytes "full")
full_said word = (
  (λ e. either_bool (same? word (bytes "full")) (λ h. same_eq word (bytes "full") h) (λ h. absurd (not_full (sym (ap named h) ∙ e)))),
  (λ e. ap named (ap (λ (w : List ℕ). same? w (bytes "full")) e ∙ same_refl (bytes "full"))),
)
  where
    named : Bool → Mode
    named b = cond b Full FirstFailure

pub full_named : (word : List ℕ) (b : Bool) → b ≡ same? word (bytes "full") → b ≡ true → Full ≡ mode_said word
full_named word b e t = ap (λ (x : Bool). cond x Full FirstFailure) (sym t ∙ e)

pub default_named : (word : List ℕ) (b : Bool) → b ≡ same? word (bytes "full") → b ≡ false → FirstFailure ≡ mode_said word
default_named word b e t = ap (λ (x : Bool). cond x Full FirstFailure) (sym t ∙ e)

-- ── the test ──
other : (word : List ℕ) → (word ≡ bytes "full" → ⊥) → false ≡ same? word (bytes "full")
other word d = either_bool (same? word (bytes "full")) (λ h. absurd (d (same_eq word (bytes "full") h))) (λ h. sym h)

pub other_size : (word : List ℕ) → (length word ≡ 4 → ⊥) → false ≡ same? word (bytes "full")
other_size word d = other word (λ e. d (ap length e))

other_byte : (word : List ℕ) (i : ℕ) → (get_or word i 0 ≡ get_or (bytes "full") i 0 → ⊥) → false ≡ same? word (bytes "full")
other_byte word i d = other word (λ e. d (ap (λ (w : List ℕ). get_or w i 0) e))

pub other_first : (word : List ℕ) → (get_or word 0 0 ≡ 102 → ⊥) → false ≡ same? word (bytes "full")
other_first word = other_byte word 0

pub other_second : (word : List ℕ) → (get_or word 1 0 ≡ 117 → ⊥) → false ≡ same? word (bytes "full")
other_second word = other_byte word 1

pub other_third : (word : List ℕ) → (get_or word 2 0 ≡ 108 → ⊥) → false ≡ same? word (bytes "full")
other_third word = other_byte word 2

and-true : (b : Bool) → b ≡ (b && true)
and-true true = refl
and-true false = refl

pub last_byte : (word : List ℕ) → length word ≡ 4 → get_or word 0 0 ≡ 102 → get_or word 1 0 ≡ 117 → get_or word 2 0 ≡ 108
    → eqb (get_or word 3 0) 108 ≡ same? word (bytes "full")
last_byte [] n p q r = absurd (omega arith)
last_byte (a ∷ []) n p q r = absurd (omega arith)
last_byte (a ∷ b ∷ []) n p q r = absurd (omega arith)
last_byte (a ∷ b ∷ c ∷ []) n p q r = absurd (omega arith)
last_byte (a ∷ b ∷ c ∷ d ∷ []) n p q r = simp (eq-eqb a 102 p, eq-eqb b 117 q, eq-eqb c 108 r) (and-true (eqb d 108))
last_byte (a ∷ b ∷ c ∷ d ∷ e ∷ word) n p q r = absurd (omega arith)
