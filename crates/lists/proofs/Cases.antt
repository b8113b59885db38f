-- Going by cases on a decision, and keeping what it says.
use Prim.Native.Nat.{ℕ, ◌<◌, ◌≤◌}
use mathlib.Core.Path.{◌≡◌, refl, sym}
use mathlib.Core.Bool.{Bool, true, false, ◌&&◌}
use native.Mathlib.Omega.{arith}
use native.Mathlib.Decide.{ℕ_discrete, dec_le}
use native.Mathlib.Nat.{lt_of_not-le}

pub by : {P C : Type 0} → Dec P → (P → C) → ((P → ⊥) → C) → C
by (yes p) f g = f p
by (no n) f g = g n

pub either_eq : {C : Type 0} (a b : ℕ) → (a ≡ b → C) → ((a ≡ b → ⊥) → C) → C
either_eq a b = by (ℕ_discrete a b)

pub either_lt : {C : Type 0} (a b : ℕ) → (a < b → C) → (b ≤ a → C) → C
either_lt a b f g = by (dec_le b a) g (λ n. f (lt_of_not-le n))

pub either_bool : {C : Type 0} (b : Bool) → (b ≡ true → C) → (b ≡ false → C) → C
either_bool true f g = f refl
either_bool false f g = g refl

pub no_both : {C : Type 0} → true ≡ false → C
no_both e = absurd (let z : ◌≡◌ {A = ℕ} 0 1 = cc in omega arith)

-- no two variants are the same
pub never : {C : Type 0} → ◌≡◌ {A = ℕ} 0 1 → C
never e = absurd (omega arith)

pub and_left : (a b : Bool) → a && b ≡ true → a ≡ true
and_left true b e = refl
and_left false b e = no_both (sym e)

pub and_right : (a b : Bool) → a && b ≡ true → b ≡ true
and_right true b e = e
and_right false b e = no_both (sym e)
