-- How the code works, not what it means.
-- The positions of two runs, compared two by two: the first starts at s and finishes at f, the second starts at t and
-- finishes at g. "The routine that compares two runs' positions works in 64-bit numbers although no line passes 256.
-- Hold them in 16 bits inside it. (..) a position above 65,535, if its promise allows one, is still compared as now."
use Rattle.std.specs.Prelude.{ℕ, ◌+◌, ◌<◌, cond, ltb}
use Rattle.positions.specs.declared.Signs.{Signs}

-- the sign of two numbers: 0 if the first is below the second, 2 if it is above it, and 1 if they are the same
unfoldable pub sign_of : ℕ → ℕ → ℕ
sign_of a b = cond (ltb a b) 0 (cond (ltb b a) 2 1)

-- the signs of four positions, whatever their width
abbrev pub signs_of : ℕ → ℕ → ℕ → ℕ → Signs
signs_of s f t g =
    record {
      starts = sign_of s t;
      finishes = sign_of f g;
      before = sign_of f t;
      after = sign_of g s;
      first = sign_of s f;
      second = sign_of t g;
    }

-- they have a common moment: each run starts before the other finishes, and both start before they finish
abbrev pub CommonMoment : ℕ → ℕ → ℕ → ℕ → Type 0
CommonMoment s f t g = (t < f) × (s < g) × (s < f) × (t < g)

-- ── in 16 bits ──
-- all four numbers fit: none is above 65,535
abbrev pub AllFit : ℕ → ℕ → ℕ → ℕ → Type 0
AllFit a b c d = (a < 65536) × (b < 65536) × (c < 65536) × (d < 65536)

-- 1 if a is below b, else 0
unfoldable pub one_below : ℕ → ℕ → ℕ
one_below a b = cond (ltb a b) 1 0

-- how many of four numbers are below p
abbrev pub rank_of : ℕ → ℕ → ℕ → ℕ → ℕ → ℕ
rank_of p a b c d = one_below a p + one_below b p + one_below c p + one_below d p
