-- How the code works, not what it means: writing text into a lent buffer, piece by piece.
use Rattle.std.specs.Prelude.{ℕ, ◌+◌, ◌≤◌, ◌≡◌, Bool, false, cond, List, [], ◌++◌, eqb, length, take, drop}
use Rattle.reading.specs.declared.Ending.{Ending}
use Rattle.reading.specs.declared.Ending.TheVariants.{Read, Refused}
use Rattle.text_pieces.specs.Pieces.{refused_text}

-- a buffer with s in it from the place p on
unfoldable pub put : List ℕ → ℕ → List ℕ → List ℕ
put text p s = take p text ++ (s ++ drop (p + length s) text)

-- s is written at the place p, and q is the place after it
pub record Writes (s text : List ℕ) (p : ℕ) (text' : List ℕ) (q : ℕ) : Type 0 where
  pub within : p ≤ length text
  pub after : q ≡ p + length s
  pub bytes : text' ≡ put text p s

-- the same, with at most m bytes
pub record WritesFew (m : ℕ) (s text : List ℕ) (p : ℕ) (text' : List ℕ) (q : ℕ) : Type 0 where
  pub writes : Writes s text p text' q
  pub few : q ≤ p + m

-- ── the letter of a verdict byte ──
-- "1 holds, 0 fails"
abbrev pub byte_letter : ℕ → ℕ
byte_letter b = cond (eqb b 1) 72 70

-- ── how the reading ended ──
-- the refusal, if there is one
abbrev pub ending_text : Ending → List ℕ
ending_text Read = []
ending_text (Refused c n) = refused_text n c

-- no line is to blame for the refusal: that of a rule
abbrev pub unread? : Ending → Bool
unread? Read = false
unread? (Refused c n) = eqb n 0

-- the line of a refusal: at most the one after 256 accepted lines
abbrev pub LineLow : Ending → Type 0
LineLow Read = Unit {0}
LineLow (Refused c n) = n ≤ 257
