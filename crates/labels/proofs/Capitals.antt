-- Laws of capitals: what a byte counts as, and that capitals go byte by byte.
use Prim.Native.Nat.{ℕ, zero, suc, ◌-◌, ◌<◌, ◌≤◌}
use mathlib.Core.Path.{◌≡◌, refl, ap, ap₂, sym, ◌∙◌}
use mathlib.Core.Logic.{◌↔◌}
use mathlib.Core.Bool.{true, ◌||◌}
use mathlib.Core.List.{List, [], ◌∷◌, ◌++◌}
use native.Mathlib.Omega.{arith}
use lib.Dec.{eqb}
use lib.ListN.{get_or, take, drop, get_or-map}
use borrow.Author.Tests.{eq-eqb, ne_eqb, le-leb, lt-leb}
use Rattle.lists.specs.Lists.{all?, has?, up_to, past}
use Rattle.lists.proofs.Cases.{either_eq, either_lt, and_left, and_right}
use Rattle.labels.specs.Label.{letter?, capital, capitals, CountsAs, small, other}
use Rattle.labels.proofs.Letters.{letter_range}

-- ── a byte ──
module _ (b : ℕ) where
  pub capital_low : b < 97 → b ≡ capital b
  unfolding capital
  capital_low h = simp (lt-leb 97 b h)

  pub capital_high : 122 < b → b ≡ capital b
  unfolding capital
  capital_high h = simp (le-leb 97 b (omega arith), lt-leb b 122 h)

  pub capital-small : 97 ≤ b → b ≤ 122 → b - 32 ≡ capital b
  unfolding capital
  capital-small h k = simp (le-leb 97 b h, le-leb b 122 k)

  capital_as : CountsAs b (capital b)
  capital_as =
      either_lt b 97
      (λ h. other (λ k l. omega arith) (sym (capital_low h)))
      (λ h. either_lt 122 b
      (λ k. other (λ l m. omega arith) (sym (capital_high k)))
      (λ k. let e = capital-small h k in small h k (omega arith)))

  -- what the function does
  pub capital_is : (c : ℕ) → (capital b ≡ c) ↔ CountsAs b c
  capital_is c = (to c, from c)
    where
      to : (c : ℕ) → capital b ≡ c → CountsAs b c
      to c e = rw (sym e) capital_as

      from : (c : ℕ) → CountsAs b c → capital b ≡ c
      from c (small h k e) = let f = capital-small h k in omega arith
      from c (other n e) =
          either_lt b 97
          (λ h. sym (capital_low h) ∙ sym e)
          (λ h. either_lt 122 b (λ k. sym (capital_high k) ∙ sym e) (λ k. absurd (n h k)))

  -- a byte of a label in capitals stays
  pub letter_capital : letter? b ≡ true → capital b ≡ b
  letter_capital e = let r = letter_range b e in sym (capital_low (omega (arith, r.1)))

  -- a byte before the letters is one just where its capital is
  pub capital_sign : (c : ℕ) → c < 65 → eqb (capital b) c ≡ eqb b c
  capital_sign c h =
      either_lt b 97
      (λ k. rw (sym (capital_low k)) refl)
      (λ k. either_lt 122 b
      (λ l. rw (sym (capital_high l)) refl)
      (λ l. let e = capital-small k l in simp (ne_eqb (capital b) c (λ q. omega arith), ne_eqb b c (λ q. omega arith))))

-- ── bytes ──
pub capitals-letters : (s : List ℕ) → all? letter? s ≡ true → capitals s ≡ s
capitals-letters [] e = refl
capitals-letters (b ∷ s) e =
    ap₂ ◌∷◌ (letter_capital b (and_left (letter? b) (all? letter? s) e)) (capitals-letters s (and_right (letter? b) (all? letter? s) e))

pub capitals_at_lem : (s : List ℕ) (k : ℕ) → get_or (capitals s) k 0 ≡ capital (get_or s k 0)
capitals_at_lem s k = ap (get_or (capitals s) k) (capital_low 0 (omega arith)) ∙ get_or-map capital s k 0

pub capitals-take : (n : ℕ) (s : List ℕ) → take n (capitals s) ≡ capitals (take n s)
capitals-take zero s = refl
capitals-take (suc n) [] = refl
capitals-take (suc n) (b ∷ s) = ap (λ (z : List ℕ). capital b ∷ z) (capitals-take n s)

pub capitals-drop : (n : ℕ) (s : List ℕ) → drop n (capitals s) ≡ capitals (drop n s)
capitals-drop zero s = refl
capitals-drop (suc n) [] = refl
capitals-drop (suc n) (b ∷ s) = capitals-drop n s

pub capitals-more : (s t : List ℕ) → capitals (s ++ t) ≡ capitals s ++ capitals t
capitals-more [] t = refl
capitals-more (b ∷ s) t = ap (λ (z : List ℕ). capital b ∷ z) (capitals-more s t)

-- a byte before the letters parts capitals where it parts the bytes
module _ (c : ℕ) (h : c < 65) where
  pub capitals-has : (s : List ℕ) → has? c (capitals s) ≡ has? c s
  capitals-has [] = refl
  capitals-has (b ∷ s) = ap₂ ◌||◌ (capital_sign b c h) (capitals-has s)

  pub capitals_up : (s : List ℕ) → up_to c (capitals s) ≡ capitals (up_to c s)
  capitals_up [] = refl
  capitals_up (b ∷ s) =
      either_eq b c
      (λ e. simp (capital_sign b c h, eq-eqb b c e))
      (λ e. simp (capital_sign b c h, ne_eqb b c e) (ap (λ (z : List ℕ). capital b ∷ z) (capitals_up s)))

  pub capitals-past : (s : List ℕ) → past c (capitals s) ≡ capitals (past c s)
  capitals-past [] = refl
  capitals-past (b ∷ s) =
      either_eq b c
      (λ e. simp (capital_sign b c h, eq-eqb b c e))
      (λ e. simp (capital_sign b c h, ne_eqb b c e) (capitals-past s))
