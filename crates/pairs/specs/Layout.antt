-- Where the pair bytes lie in a work area: two layouts, and an area of any layout as one list.
use Rattle.std.specs.Prelude.{ℕ, zero, suc, ◌+◌, ◌*◌, ◌-◌, ◌/◌, ◌<◌, ◌≡◌, cond, List, [], ◌∷◌, ◌++◌, eqb, length, get_or, drop}
use Rattle.lists.specs.Limits.{max_runs}
use Rattle.pairs.specs.declared.Layout.{Layout}
use Rattle.pairs.specs.declared.Layout.TheVariants.{Square, Half}

-- the pair bytes of a work area: "its first 16,384 bytes are pair bytes"; "The hand terminal lends 8,128 bytes."
abbrev pub work_size : Layout → ℕ
work_size Square = 16384
work_size Half = 8128

-- "128 × first run + second run"; "at y × (y − 1) / 2 + x for runs x below y"
abbrev pub place : Layout → ℕ → ℕ → ℕ
place Square x y = max_runs * x + y
place Half x y = y * (y - 1) / 2 + x

-- All that is asked of n bytes and of a place for each two runs: it is one of the bytes, and different pairs have different places.
pub record Places (n : ℕ) (spot : ℕ → ℕ → ℕ) : Type 0 where
  pub low : (a b : ℕ) → a < b → b < max_runs → spot a b < n
  pub apart : (a b c d : ℕ) → a < b → b < max_runs → c < d → d < max_runs → spot a b ≡ spot c d → (a ≡ c) × (b ≡ d)

-- ── an area ──
-- no two runs have the place k
abbrev pub NoPair : (ℕ → ℕ → ℕ) → ℕ → Type 0
NoPair spot k = (a b : ℕ) → a < b → b < max_runs → spot a b ≡ k → ⊥

-- What an area of n bytes is: "one byte for each pair begun in order", at its place, here f of the two runs. "Otherwise it is 0."
pub record Area (n : ℕ) (spot f : ℕ → ℕ → ℕ) (v : List ℕ) : Type 0 where
  pub size : length v ≡ n
  pub pairs : (a b : ℕ) → a < b → b < max_runs → get_or v (spot a b) 0 ≡ f a b
  pub others : (k : ℕ) → k < n → NoPair spot k → get_or v k 0 ≡ 0

-- the byte of the runs x and y, for x below n, whose place is k; d if there are none
unfoldable pub among_first : (ℕ → ℕ → ℕ) → (ℕ → ℕ → ℕ) → ℕ → ℕ → ℕ → ℕ → ℕ
among_first spot f k d y zero = d
among_first spot f k d y (suc x) = cond (eqb (spot x y) k) (f x y) (among_first spot f k d y x)

-- the byte at place k, by the pairs of the first n runs
unfoldable pub byte_at : (ℕ → ℕ → ℕ) → (ℕ → ℕ → ℕ) → ℕ → ℕ → ℕ
byte_at spot f k zero = 0
byte_at spot f k (suc y) = among_first spot f k (byte_at spot f k y) y y

-- f k, f (k + 1), .., n of them
unfoldable pub tab_from : ℕ → ℕ → (ℕ → ℕ) → List ℕ
tab_from k zero f = []
tab_from k (suc n) f = f k ∷ tab_from (k + 1) n f

-- the area, computed: where each two runs have a place of their own it is an `Area`, and no other list is (`is_area`, `only_area`)
unfoldable pub area_of : ℕ → (ℕ → ℕ → ℕ) → (ℕ → ℕ → ℕ) → List ℕ
area_of n spot f = tab_from 0 n (λ (k : ℕ). byte_at spot f k max_runs)

-- a lent buffer that starts with an area, and goes on as w does
abbrev pub area_in : ℕ → (ℕ → ℕ → ℕ) → (ℕ → ℕ → ℕ) → List ℕ → List ℕ
area_in n spot f w = area_of n spot f ++ drop n w
