-- The call on a label book, with the piece as numbers: 0 the book or 1 the log, the place of its first byte, and how many bytes it has.
use Rattle.std.specs.Prelude.{Result, Ok, Err, ℕ, ◌-◌, ◌≡◌, List}
use Rattle.answer_numbers.specs.Numbers.{refusal}
use Rattle.label_book.specs.declared.Piece.{Piece}
use Rattle.label_book.specs.declared.Piece.TheVariants.{InBook, InLog}
use Rattle.refusals.specs.Refusal.{number}
use Rattle.refusals.specs.declared.Refusal.{Refusal}
use Rattle.label_book.specs.Piece.{TellsPiece}

-- a refusal leaves the two numbers that were lent
abbrev pub piece_numbered : Result Piece Refusal → ℕ → ℕ → (ℕ × ℕ × ℕ)
piece_numbered (Ok (InBook first end)) start size = (0, first, end - first)
piece_numbered (Ok (InLog first end)) start size = (1, first, end - first)
piece_numbered (Err e) start size = (refusal (number e), start, size)

pub record TellsNumbers (book log : List ℕ) (p n start size number start' size' : ℕ) : Type 0 where
  pub piece : Result Piece Refusal
  pub told : TellsPiece book log p n piece
  pub answer : ◌≡◌ {A = ℕ × ℕ × ℕ} (number, start', size') (piece_numbered piece start size)
