-- The digits of the mask of one variable.
use mathlib.Core.Path.{◌≡◌, refl, sym, ap, ◌∙◌}
use Prim.Native.Nat.{ℕ, suc, ◌+◌, ◌-◌, ◌*◌, ◌/◌, ◌%◌, ◌^◌, ◌≤◌, ◌<◌}
use native.Mathlib.Nat.{pow-suc, div-eq_of_lt, one-mul, mul-mod_left}
use native.Mathlib.Omega.{arith}
use lib.Dec.{eqb}
use lib.Pow.{pow-lt, pow-add, shl-shr}
use borrow.Author.Tests.{eq-eqb, ne_eqb}
use Rattle.lists.proofs.Cases.{either_eq, either_lt}
use Rattle.sets.specs.Sets.{bit}

-- the mask that has variable v alone
pub bit_digit : (v w : ℕ) → bit (2 ^ v) w ≡ eqb v w
unfolding bit
bit_digit v w = either_eq v w here (λ n. either_lt v w (above n) (below n))
  where
    here : v ≡ w → eqb (2 ^ v / 2 ^ w % 2) 1 ≡ eqb v w
    here e =
        let one : 2 ^ w / 2 ^ w ≡ 1 = ap (λ (n : ℕ). n / 2 ^ w) (sym (one-mul (2 ^ w))) ∙ shl-shr 1 w in
        rw (e, one) (sym (eq-eqb w w refl))

    above : (v ≡ w → ⊥) → v < w → eqb (2 ^ v / 2 ^ w % 2) 1 ≡ eqb v w
    above n l = rw (div-eq_of_lt (pow-lt l)) (sym (ne_eqb v w n))

    below : (v ≡ w → ⊥) → w ≤ v → eqb (2 ^ v / 2 ^ w % 2) 1 ≡ eqb v w
    below n l =
        let d : v ≡ suc (v - w - 1) + w = omega (arith, n) in
        let e : 2 ^ v / 2 ^ w ≡ 2 ^ (v - w - 1) * 2 = ap (λ (i : ℕ). 2 ^ i / 2 ^ w) d ∙ ap (λ (i : ℕ). i / 2 ^ w) (pow-add 2 (suc (v - w - 1)) w) ∙ shl-shr (2 ^ suc (v - w - 1)) w ∙ pow-suc 2 (v - w - 1) in
        rw (e, mul-mod_left (2 ^ (v - w - 1)) 2) (sym (ne_eqb v w n))
