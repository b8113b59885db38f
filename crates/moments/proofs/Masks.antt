-- Masks of variables: bit v for variable v.
use Prim.Native.Nat.{ℕ, suc, ◌+◌, ◌*◌, ◌-◌, ◌/◌, ◌%◌, ◌^◌, ◌<◌}
use mathlib.Core.Path.{◌≡◌, refl, sym, subst, ap, ap₂, ◌∙◌}
use mathlib.Core.Bool.{Bool, true, false, ◌&&◌, ◌||◌, or-true}
use native.Mathlib.Nat.{pow-suc}
use native.Mathlib.Omega.{arith}
use lib.Bits.{bit_and, bit_or, and_le_l}
use lib.Count.{count_trailing_zeros}
use lib.Dec.{eqb}
use lib.Pow.{pow-add, pow-lt, shl-shr}
use borrow.Author.Tests.{eqb-true, eqb-false, eq-eqb, ne_eqb}
use Rattle.lists.specs.Tells.{Tells}
use Rattle.lists.proofs.Cases.{either_eq, either_lt, no_both, and_left, and_right}
use Rattle.sets.specs.Sets.{bit}
use Rattle.sets.proofs.Bits.{bit-and, bit-or, bit_zero, bit_self, bit_high, bit_trailing}
use Rattle.moments.specs.Open.{NoneShared, Marked}

-- ── masks with nothing in common ──
none_common : (a b : ℕ) → bit_and a b ≡ 0 → NoneShared a b
none_common a b e v q = go (bit b v) refl
  where
    go : (x : Bool) → bit b v ≡ x → x ≡ false
    go true f = no_both (sym (bit-and a b v ∙ ap₂ ◌&&◌ q f) ∙ (ap (λ (n : ℕ). bit n v) e ∙ bit_zero v))
    go false f = refl

-- the lowest bit that both have
common : (a b : ℕ) → a < 256 → (bit_and a b ≡ 0 → ⊥) → NoneShared a b → ⊥
common a b l n h =
    let q = bit_and a b in
    let low = and_le_l a b in
    let t = count_trailing_zeros 8 q in
    let e : (bit a t && bit b t) ≡ true = sym (bit-and a b t) ∙ bit_trailing 8 q (omega (arith, n)) (omega arith) in
    no_both (sym (and_right (bit a t) (bit b t) e) ∙ h t (and_left (bit a t) (bit b t) e))

pub apart_tells : (a b : ℕ) → a < 256 → Tells (eqb (bit_and a b) 0) (NoneShared a b)
apart_tells a b l = record { yes = λ e. none_common a b (eqb-true (bit_and a b) 0 e); no = λ e. common a b l (eqb-false (bit_and a b) 0 e) }

-- ── one variable more ──
bit_below : (d w : ℕ) → bit (2 ^ (suc d + w)) w ≡ false
unfolding bit
bit_below d w =
    let e : 2 ^ (suc d + w) / 2 ^ w ≡ 2 ^ d * 2 = ap (λ (n : ℕ). n / 2 ^ w) (pow-add 2 (suc d) w) ∙ (shl-shr (2 ^ suc d) w ∙ pow-suc 2 d) in
    let z : (2 ^ d * 2) % 2 ≡ 0 = omega arith in
    rw (e, z) refl

bit_power : (v w : ℕ) → bit (2 ^ v) w ≡ eqb v w
bit_power v w =
    either_eq v w
    (λ e. subst (λ (u : ℕ). bit (2 ^ v) u ≡ eqb v u) e (bit_self v ∙ sym (eq-eqb v v refl)))
    (λ n. rw (ne_eqb v w n) (either_lt w v (λ l. above (v - w - 1) (omega arith)) (λ l. bit_high (2 ^ v) w w (pow-lt (omega (arith, n))) (omega arith))))
  where
    above : (d : ℕ) → v ≡ suc d + w → bit (2 ^ v) w ≡ false
    above d e = rw e (bit_below d w)

pub marked_mask : (b v p : ℕ) → p ≡ 2 ^ v → Marked b v (bit_or b p)
marked_mask b v p e w = bit-or b p w ∙ ap (λ (x : Bool). bit b w || x) (ap (λ (n : ℕ). bit n w) e ∙ bit_power v w)

or_none : (x y : Bool) → (x || y) ≡ false → x ≡ false
or_none true y e = e
or_none false y e = refl

module _ (b v r : ℕ) (m : Marked b v r) where
  pub marked_on : bit r v ≡ true
  marked_on = m v ∙ (ap (λ (x : Bool). bit b v || x) (eq-eqb v v refl) ∙ or-true (bit b v))

  pub marked_more : (w : ℕ) → bit r w ≡ false → bit b w ≡ false
  marked_more w q = or_none (bit b w) (eqb v w) (sym (m w) ∙ q)
