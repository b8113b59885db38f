-- Why ranks stand to each other as the numbers do whose ranks they are: what is below a number is below every larger
-- one, and the number itself is below those and not below itself.
use Prim.Native.Nat.{ℕ, ◌<◌, ◌≤◌}
use mathlib.Core.Path.{◌≡◌, refl, sym, ◌∙◌}
use mathlib.Core.Logic.{◌⊎◌, inl, inr, ⊎_elim}
use native.Mathlib.Omega.{arith}
use borrow.Author.Tests.{lt-ltb, le-ltb}
use Rattle.lists.proofs.Cases.{either_lt}
use Rattle.positions.specs.Comparison.{one_below, rank_of, sign_of, signs_of}
use Rattle.positions.proofs.Signed.{sign_below, sign_same, sign_above}

-- ── 1 or 0 ──
pub one_yes : (a b : ℕ) → a < b → one_below a b ≡ 1
unfolding one_below
one_yes a b h = simp (lt-ltb a b h)

pub one_no : (a b : ℕ) → b ≤ a → one_below a b ≡ 0
unfolding one_below
one_no a b h = simp (le-ltb a b h)

pub one_at_most : (a b n : ℕ) → n ≡ one_below a b → n ≤ 1
one_at_most a b n e = either_lt a b (λ h. omega (arith, e, one_yes a b h)) (λ h. omega (arith, e, one_no a b h))

one_rises : (a p q : ℕ) → p ≤ q → one_below a p ≤ one_below a q
one_rises a p q h =
    either_lt a p (λ k. omega (arith, one_yes a p k, one_yes a q (omega arith))) (λ k. omega (arith, one_no a p k))

one_own : (a p q : ℕ) → p ≡ a → p < q → one_below a p < one_below a q
one_own a p q e h = omega (arith, one_no a p (omega arith), one_yes a q (omega arith))

-- ── the ranks of four numbers ──
module _ (a b c d : ℕ) where
  abbrev rank : ℕ → ℕ
  rank p = rank_of p a b c d

  abbrev Among : ℕ → Type 0
  Among p = (p ≡ a) ⊎ ((p ≡ b) ⊎ ((p ≡ c) ⊎ (p ≡ d)))

  rank_stays : (p q : ℕ) → p ≤ q → rank p ≤ rank q
  rank_stays p q h = omega (arith, one_rises a p q h, one_rises b p q h, one_rises c p q h, one_rises d p q h)

  rank_rises : (p q : ℕ) → Among p → p < q → rank p < rank q
  rank_rises p q m h =
      let k : p ≤ q = omega arith in
      let of-a = one_rises a p q k in
      let of-b = one_rises b p q k in
      let of_c = one_rises c p q k in
      let of-d = one_rises d p q k in
      ⊎_elim (λ e. omega (arith, one_own a p q e h))
      (⊎_elim (λ e. omega (arith, one_own b p q e h))
      (⊎_elim (λ e. omega (arith, one_own c p q e h)) (λ e. omega (arith, one_own d p q e h))))
      m

  sign_rank : (p q : ℕ) → Among p → Among q → sign_of (rank p) (rank q) ≡ sign_of p q
  sign_rank p q m n =
      either_lt p q (λ h. sign_below (rank p) (rank q) (rank_rises p q m h) ∙ sym (sign_below p q h))
      (λ h. either_lt q p (λ k. sign_above (rank p) (rank q) (rank_rises q p n k) ∙ sym (sign_above p q k))
      (λ k. sign_same (rank p) (rank q) (rank_stays p q k) (rank_stays q p h) ∙ sym (sign_same p q k h)))

  -- the signs of the ranks are those of the numbers
  pub signs_rank : (x y z v : ℕ) → x ≡ rank a → y ≡ rank b → z ≡ rank c → v ≡ rank d → signs_of x y z v ≡ signs_of a b c d
  signs_rank x y z v of-a of-b of_c of-d =
      let in_a : Among a = inl refl in
      let in_b : Among b = inr (inl refl) in
      let in_c : Among c = inr (inr (inl refl)) in
      let in-d : Among d = inr (inr (inr refl)) in
      let starts = sign_rank a c in_a in_c in
      let finishes = sign_rank b d in_b in-d in
      let before = sign_rank b c in_b in_c in
      let after = sign_rank d a in-d in_a in
      let first = sign_rank a b in_a in_b in
      let second = sign_rank c d in_c in-d in
      rw (of-a, of-b, of_c, of-d) (rw (starts, finishes, before, after, first, second) refl)
