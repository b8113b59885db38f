-- What a program tells of a call that writes to a lent buffer, or refuses.
use Rattle.std.specs.Prelude.{ℕ, ◌≡◌, List, [], ◌∷◌, ◌++◌, take}
use Rattle.input.specs.Counts.{IsPrefixLen}
use Rattle.std.specs.declared.io.Error.{Error}
use Rattle.input.specs.Filled.{Filled}
use Rattle.std.specs.Prelude.{Ok, Err}
use Rattle.output.specs.declared.Written.{Written}
use Rattle.output.specs.declared.Written.TheVariants.{Length, Refused}
use Rattle.text_pieces.specs.Pieces.{decimal}

-- `R`, the number in decimal and LF: `R25`
unfoldable pub refusal_line : ℕ → List ℕ
refusal_line c = 82 ∷ decimal c ++ (10 ∷ [])

-- the most bytes of such a line
abbrev pub line_size : ℕ
line_size = 5

-- how many bytes were written to the buffer
abbrev pub size_of : Written → ℕ
size_of (Length n) = n
size_of (Refused c) = 0

-- on standard output: the bytes that the call writes, or nothing where it refuses
abbrev pub output_of : Written → List ℕ → List ℕ
output_of (Length n) bytes = bytes
output_of (Refused c) bytes = []

-- on standard error: the line of the refusal, or nothing where there is none
abbrev pub error_of : Written → List ℕ
error_of (Length n) = []
error_of (Refused c) = refusal_line c

-- the first n bytes of the buffer are what standard error is told
pub record PutsError (w : Written) (line : List ℕ) (n : ℕ) : Type 0 where
  pub counts : IsPrefixLen n line
  pub bytes : take n line ≡ error_of w

-- What is told is s: what `f` says of the n bytes that the read brought, or nothing where the read failed. `room` is how many bytes are
-- read at most.
pub record Tells (f : List ℕ → List ℕ) (room : ℕ) (a : Filled) (buffer s : List ℕ) : Type 0 where
  pub read : (n : ℕ) → a ≡ Ok n → s ≡ f (take n buffer)
  -- these are the first bytes of an input: what is told is what `f` says of the whole input
  pub whole : (n : ℕ) → a ≡ Ok n → (input : List ℕ) → take n buffer ≡ take room input → s ≡ f input
  pub failed : (x : Error) → a ≡ Err x → s ≡ []

-- A call answered w and left its buffer as `out`: the bytes at its start are what standard output is to be told, and the refusal is what
-- standard error is to be told.
pub record Answered (f g : List ℕ → List ℕ) (room : ℕ) (a : Filled) (buffer : List ℕ) (w : Written) (out : List ℕ) : Type 0 where
  pub counts : IsPrefixLen (size_of w) out
  pub output : Tells f room a buffer (take (size_of w) out)
  pub error : Tells g room a buffer (error_of w)
