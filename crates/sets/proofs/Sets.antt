-- What the operations on sets of runs do to their members.
use mathlib.Core.Path.{◌≡◌, refl, sym, ap, ◌∙◌, subst}
use mathlib.Core.Bool.{Bool, true, false, not, cond, ◌&&◌, ◌||◌, or-true, true≢false}
use mathlib.Core.Logic.{⊎_elim}
use Prim.Native.Nat.{ℕ, zero, suc, ◌+◌, ◌-◌, ◌^◌, ◌≤◌, ◌<◌}
use native.Mathlib.Nat.{eq-or-lt_of_le, le_of_suc-le-suc}
use native.Mathlib.Omega.{arith}
use lib.Dec.{ltb, leb}
use lib.Bits.{bit_and, bit_or, bit_xor}
use lib.Count.{count_trailing_zeros}
use borrow.Author.Tests.{ltb-true, ltb-false, lt-ltb, le-ltb, leb-true, leb-false, le-leb, lt-leb}
use Rattle.sets.specs.Sets.{bit, mem, any_up_to}
use Rattle.sets.proofs.Bits.{bit-and, bit-or, bit-less, bit_zero, bit_ones, bit_trailing, bit_under_trailing, trailing_lt}
use Rattle.sets.specs.declared.RunSet.{RunSet}

by_halves : (f : Bool → Bool → Bool) (b p q r p' q' r' : Bool) → p ≡ f q r → p' ≡ f q' r' → cond b p p' ≡ f (cond b q q') (cond b r r')
by_halves f true p q r p' q' r' e e' = e
by_halves f false p q r p' q' r' e e' = e'

pub mem_meet : (a b : RunSet) (j : ℕ) → mem (record { lo = bit_and a.lo b.lo; hi = bit_and a.hi b.hi }) j ≡ (mem a j && mem b j)
unfolding mem
mem_meet a b j = by_halves ◌&&◌ (ltb j 64) _ _ _ _ _ _ (bit-and a.lo b.lo j) (bit-and a.hi b.hi (j - 64))

pub mem-join : (a b : RunSet) (j : ℕ) → mem (record { lo = bit_or a.lo b.lo; hi = bit_or a.hi b.hi }) j ≡ (mem a j || mem b j)
unfolding mem
mem-join a b j = by_halves ◌||◌ (ltb j 64) _ _ _ _ _ _ (bit-or a.lo b.lo j) (bit-or a.hi b.hi (j - 64))

pub mem-minus : (a b : RunSet) (j : ℕ) → mem (record { lo = bit_xor a.lo (bit_and a.lo b.lo); hi = bit_xor a.hi (bit_and a.hi b.hi) }) j ≡ (mem a j && not (mem b j))
unfolding mem
mem-minus a b j = by_halves (λ x y. x && not y) (ltb j 64) _ _ _ _ _ _ (bit-less a.lo b.lo j) (bit-less a.hi b.hi (j - 64))

pub mem_none : (s : RunSet) → s.lo ≡ 0 → s.hi ≡ 0 → (j : ℕ) → mem s j ≡ false
unfolding mem
mem_none s e f j = rw (e, f) (go (ltb j 64))
  where
    go : (b : Bool) → cond b (bit 0 j) (bit 0 (j - 64)) ≡ false
    go true = bit_zero j
    go false = bit_zero (j - 64)

pub mem_low : (s : RunSet) (i : ℕ) → i < 64 → mem s i ≡ bit s.lo i
unfolding mem
mem_low s i h = rw (lt-ltb i 64 h)

pub mem_high : (s : RunSet) (i : ℕ) → 64 ≤ i → mem s i ≡ bit s.hi (i - 64)
unfolding mem
mem_high s i h = rw (le-ltb i 64 h)

shifted : (j k : ℕ) → 64 ≤ j → 64 ≤ k → ltb (j - 64) (k - 64) ≡ ltb j k
shifted j k h l = go (ltb j k) refl
  where
    go : (b : Bool) → ltb j k ≡ b → ltb (j - 64) (k - 64) ≡ b
    go true e = let q = ltb-true j k e in lt-ltb (j - 64) (k - 64) (omega arith)
    go false e = let q = ltb-false j k e in le-ltb (j - 64) (k - 64) (omega arith)

pub mem_below_low : (k w : ℕ) → k < 64 → w ≡ 2 ^ k - 1 → (j : ℕ) → mem (record { lo = w; hi = 0 }) j ≡ ltb j k
unfolding mem
mem_below_low k w h e j = rw e (go (ltb j 64) refl)
  where
    go : (b : Bool) → ltb j 64 ≡ b → cond b (bit (2 ^ k - 1) j) (bit 0 (j - 64)) ≡ ltb j k
    go true f = bit_ones k j
    go false f = let q = ltb-false j 64 f in bit_zero (j - 64) ∙ sym (le-ltb j k (omega arith))

pub mem_below_high : (k w : ℕ) → 64 ≤ k → w ≡ 2 ^ (k - 64) - 1 → (j : ℕ) → mem (record { lo = 18446744073709551615; hi = w }) j ≡ ltb j k
unfolding mem
mem_below_high k w h e j = rw e (go (ltb j 64) refl)
  where
    go : (b : Bool) → ltb j 64 ≡ b → cond b (bit 18446744073709551615 j) (bit (2 ^ (k - 64) - 1) (j - 64)) ≡ ltb j k
    go true f = let q = ltb-true j 64 f in bit_ones 64 j ∙ f ∙ sym (lt-ltb j k (omega arith))
    go false f = let q = ltb-false j 64 f in bit_ones (k - 64) (j - 64) ∙ shifted j k q h

not_below : (j k : ℕ) → not (ltb j k) ≡ leb k j
not_below j k = go (ltb j k) refl
  where
    go : (b : Bool) → ltb j k ≡ b → not b ≡ leb k j
    go true e = let q = ltb-true j k e in sym (lt-leb k j q)
    go false e = sym (le-leb k j (ltb-false j k e))

pub from_law : (r s b : RunSet) (j k : ℕ) → mem r j ≡ (mem s j && not (mem b j)) → mem b j ≡ ltb j k → mem r j ≡ (mem s j && leb k j)
from_law r s b j k e f = e ∙ ap (λ (u : Bool). mem s j && not u) f ∙ ap (λ (u : Bool). mem s j && u) (not_below j k)

-- t is the least that passes
pub any_least : (p : ℕ → Bool) (t : ℕ) → p t ≡ true → ((i : ℕ) → i < t → p i ≡ false) → (j : ℕ) → any_up_to j p ≡ leb t j
any_least p t e f zero = go (leb t zero) refl
  where
    go : (b : Bool) → leb t zero ≡ b → p zero ≡ b
    go true q = let l = leb-true t zero q in let z : t ≡ zero = omega arith in subst (λ (i : ℕ). p i ≡ true) z e
    go false q = f zero (leb-false t zero q)
any_least p t e f (suc j) = ap (λ (b : Bool). b || p (suc j)) (any_least p t e f j) ∙ go (leb t (suc j)) refl
  where
    go : (b : Bool) → leb t (suc j) ≡ b → (leb t j || p (suc j)) ≡ b
    go true q = ⊎_elim
        (λ (z : t ≡ suc j). rw (subst (λ (i : ℕ). p i ≡ true) z e) (or-true (leb t j)))
        (λ (l : t < suc j). rw (le-leb t j (le_of_suc-le-suc l)) refl)
        (eq-or-lt_of_le (leb-true t (suc j) q))
    go false q = let l = leb-false t (suc j) q in rw (lt-leb t j (omega arith), f (suc j) l) refl

pub none_up : (p : ℕ → Bool) → ((i : ℕ) → p i ≡ false) → (j : ℕ) → any_up_to j p ≡ false
none_up p f zero = f zero
none_up p f (suc j) = rw (none_up p f j, f (suc j)) refl

-- what is at or above the least member of s
module _ (s : RunSet) where
  pub least_low : 0 < s.lo → s.lo < 2 ^ 64 → (j : ℕ) → any_up_to j (mem s) ≡ leb (count_trailing_zeros 64 s.lo) j
  least_low p h =
      let l = trailing_lt 64 s.lo p h in
      any_least (mem s) (count_trailing_zeros 64 s.lo) (mem_low s _ l ∙ bit_trailing 64 s.lo p h) (λ i g. mem_low s i (omega arith) ∙ bit_under_trailing 64 s.lo i g)

  pub least_high : s.lo ≡ 0 → 0 < s.hi → s.hi < 2 ^ 64 → (j : ℕ) → any_up_to j (mem s) ≡ leb (64 + count_trailing_zeros 64 s.hi) j
  least_high z p h =
      any_least (mem s) (64 + t) (mem_high s (64 + t) (omega arith) ∙ ap (bit s.hi) (omega arith) ∙ bit_trailing 64 s.hi p h) under
    where
      t : ℕ
      t = count_trailing_zeros 64 s.hi

      under : (i : ℕ) → i < 64 + t → mem s i ≡ false
      under i g = go (ltb i 64) refl
        where
          go : (b : Bool) → ltb i 64 ≡ b → mem s i ≡ false
          go true e = mem_low s i (ltb-true i 64 e) ∙ rw z (bit_zero i)
          go false e = let q = ltb-false i 64 e in mem_high s i q ∙ bit_under_trailing 64 s.hi (i - 64) (omega arith)

-- from the least member on, within the first 128
pub up_law : (r b : RunSet) (z : Bool) (j t : ℕ) → j < 128 → mem r j ≡ (mem b j && leb t j) → mem b j ≡ ltb j 128 → z ≡ leb t j → mem r j ≡ z
up_law r b z j t l e f g = e ∙ rw (f, lt-ltb j 128 l) (sym g)

-- a set with a word that is not 0 has a member
pub some_low : (s : RunSet) → (s.lo ≡ 0 → ⊥) → s.lo < 2 ^ 64 → ((j : ℕ) → mem s j ≡ false) → ⊥
some_low s z h n =
    let p : 0 < s.lo = omega (arith, z) in
    let l = trailing_lt 64 s.lo p h in
    true≢false (sym (mem_low s _ l ∙ bit_trailing 64 s.lo p h) ∙ n (count_trailing_zeros 64 s.lo))

pub some_high : (s : RunSet) → (s.hi ≡ 0 → ⊥) → s.hi < 2 ^ 64 → ((j : ℕ) → mem s j ≡ false) → ⊥
some_high s z h n =
    let p : 0 < s.hi = omega (arith, z) in
    let t : ℕ = count_trailing_zeros 64 s.hi in
    let l = trailing_lt 64 s.hi p h in
    let e : 64 + t - 64 ≡ t = omega arith in
    true≢false (sym (mem_high s (64 + t) (omega arith) ∙ (ap (bit s.hi) e ∙ bit_trailing 64 s.hi p h)) ∙ n (64 + t))
