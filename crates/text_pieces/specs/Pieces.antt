-- The pieces of the printed text. "It prints for each accepted line its number, a space, and `H` or `F`; for a refused line its number,
-- a space, `R` and the refusal joined (as `3 R15`) .. Numbers are decimal, and every line ends in LF."
use Rattle.std.specs.Prelude.{ℕ, List, [], ◌∷◌, ◌++◌}
use Rattle.lines.specs.Render.{digits}

-- A number of at most three digits, without leading zeros: right for 0 to 999. Every number that is printed is at most 257, the
-- number of a line after 256 accepted ones.
unfoldable pub decimal : ℕ → List ℕ
decimal n = digits 3 n

-- the line of a number with one letter
abbrev pub letter_line : ℕ → ℕ → List ℕ
letter_line n b = decimal n ++ (32 ∷ b ∷ 10 ∷ [])

-- "its number, a space, `R` and the refusal joined"
unfoldable pub refused_text : ℕ → ℕ → List ℕ
refused_text n c = decimal n ++ (32 ∷ 82 ∷ decimal c ++ (10 ∷ []))

-- "a space before each"
abbrev pub count_text : ℕ → List ℕ
count_text n = 32 ∷ decimal n
