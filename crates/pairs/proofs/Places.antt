-- In either layout each two runs have a place of their own, below the layout's size.
use Prim.Native.Nat.{ℕ, zero, suc, ◌+◌, ◌*◌, ◌-◌, ◌/◌, ◌<◌, ◌≤◌}
use mathlib.Core.Path.{◌≡◌, refl, ap, sym, ◌∙◌}
use native.Mathlib.Omega.{arith}
use native.Mathlib.Nat.{mul_comm, mul-suc}
use Rattle.lists.specs.Limits.{max_runs}
use Rattle.lists.proofs.Cases.{either_lt, either_eq}
use Rattle.pairs.specs.declared.Layout.{Layout}
use Rattle.pairs.specs.declared.Layout.TheVariants.{Square, Half}
use Rattle.pairs.specs.Layout.{work_size, place, Places, NoPair}

-- ── the square layout ──
square : Places 16384 (place Square)
square =
    record {
      low = λ a b h k. omega arith;
      apart = λ a b c d h k i j e. (omega arith, omega arith);
    }

-- a byte whose column is not behind its row is that of no two runs
pub square_below : (a b : ℕ) → b ≤ a → a < max_runs → NoPair (place Square) (max_runs * a + b)
square_below a b h k x y i j e = omega arith

-- ── the half layout ──
-- the pairs of the first y runs
below : ℕ → ℕ
below zero = 0
below (suc y) = below y + y

twice : (y : ℕ) → y * (y - 1) ≡ 2 * below y
unfolding below
twice zero = refl
twice (suc zero) = refl
twice (suc (suc y)) =
    let l : suc (suc y) - 1 ≡ suc y = omega arith in
    let m : suc y - 1 ≡ y = omega arith in
    let p : suc y * (suc y - 1) ≡ 2 * below (suc y) = twice (suc y) in
    let p' : suc y * y ≡ 2 * (below y + y) = rw m at p in
    let q : suc (suc y) * suc y ≡ suc (suc y) * y + suc (suc y) = mul-suc (suc (suc y)) y in
    let r : suc (suc y) * y ≡ y * suc (suc y) = mul_comm (suc (suc y)) y in
    let s : y * suc (suc y) ≡ y * suc y + y = mul-suc y (suc y) in
    let t : suc y * y ≡ y * suc y = mul_comm (suc y) y in
    rw l (omega (arith, p', q, r, s, t))

half_is : (x y : ℕ) → place Half x y ≡ below y + x
half_is x y = let e : y * (y - 1) ≡ 2 * below y = twice y in omega arith

-- the halving leaves no rest
pub half_exact : (x y : ℕ) → 2 * place Half x y ≡ y * (y - 1) + 2 * x
half_exact x y = let e : y * (y - 1) ≡ 2 * below y = twice y in omega (arith, half_is x y)

-- a later run's pairs stand behind an earlier one's
further : (y z : ℕ) → y < z → below y + y ≤ below z
unfolding below
further y zero h = absurd (omega arith)
further y (suc z) h =
    either_eq y z
    (λ e. rw e (omega arith))
    (λ n. let i : below y + y ≤ below z = further y z (omega arith) in omega arith)

half : Places 8128 (place Half)
unfolding below
half =
    record {
      low = λ a b h k.
          let e : place Half a b ≡ below b + a = half_is a b in
          let i : below b + b ≤ below 128 = further b 128 k in
          let j : below 128 ≡ 8128 = refl in
          omega (arith, e, i, j);
      apart = λ a b c d h k i j e. same a b c d h i (sym (half_is a b) ∙ (e ∙ half_is c d));
    }
  where
    same : (a b c d : ℕ) → a < b → c < d → below b + a ≡ below d + c → (a ≡ c) × (b ≡ d)
    same a b c d h i e =
        either_lt b d
        (λ l. absurd (omega (arith, further b d l)))
        (λ l. either_lt d b
        (λ m. absurd (omega (arith, further d b m)))
        (λ m.
        let q : b ≡ d = omega arith in
        let p : below b ≡ below d = ap below q in
        (omega arith, q)))

-- every byte of it is the place of two runs
half_full_to : (n k : ℕ) → k < below n → (x y : ℕ) × (x < y) × (y < n) × (place Half x y ≡ k)
unfolding below
half_full_to zero k h = absurd (omega arith)
half_full_to (suc n) k h =
    either_lt k (below n)
    (λ i. let p = half_full_to n k i in (p.0, p.1, p.2, omega (arith, p.3), p.4))
    (λ i. (k - below n, n, omega arith, omega arith, half_is (k - below n) n ∙ omega arith))

pub half_full : (k : ℕ) → k < 8128 → (x y : ℕ) × (x < y) × (y < max_runs) × (place Half x y ≡ k)
unfolding below
half_full k h = half_full_to 128 k h

-- ── either ──
pub places : (lay : Layout) → Places (work_size lay) (place lay)
places Square = square
places Half = half

-- ── what the code computes ──
pub bounds : (lay : Layout) → (8128 ≤ work_size lay) × (work_size lay ≤ 16384)
bounds Square = (omega arith, omega arith)
bounds Half = (omega arith, omega arith)

pub half-small : (x y : ℕ) → x < y → y < max_runs → y * (y - 1) ≤ 16256
unfolding below
half-small x y h k =
    let i : below y + y ≤ below 128 = further y 128 k in
    let j : below 128 ≡ 8128 = refl in
    omega (arith, twice y, i, j)

-- in either layout, by which it is
module _ (lay : Layout) (x y : ℕ) (h : x < y) (k : y < max_runs) where
  pub place_square : lay ≡ Square → (128 * x + y ≡ place lay x y) × (128 * x + y < work_size lay)
  place_square e = rw e (refl, square.low x y h k)

  pub place_half : lay ≡ Half → (y * (y - 1) / 2 + x ≡ place lay x y) × (y * (y - 1) / 2 + x < work_size lay)
  place_half e = rw e (refl, half.low x y h k)
