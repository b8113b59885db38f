-- The piece that stands for a label of a log: "hand back the book's own text where the label is listed, otherwise the label's bytes as
-- they stand in the log".
use Rattle.std.specs.Prelude.{Result, Ok, Err, ℕ, ◌+◌, ◌-◌, ◌<◌, ◌≤◌, ◌≡◌, ◌↔◌, Bool, ◌&&◌, cond, List, [], leb, length, take, drop}
use Rattle.std.specs.Prelude.{Option, None, Some}
use Rattle.std.specs.Borrow.{Bor}
use Rattle.labels.specs.Label.{capitals, label_form?}
use Rattle.grammar.specs.Written.{IsLabel}
use Rattle.label_book.specs.Book.{Entry, Book, TextAt, NotListed}
use Rattle.label_book.specs.Reading.{book_of, text_from}
use Rattle.label_book.specs.declared.Piece.{Piece}
use Rattle.label_book.specs.declared.Piece.TheVariants.{InBook, InLog}
use Rattle.refusals.specs.Refusal.{RefusedWith}
use Rattle.refusals.specs.declared.Refusal.{Refusal}
use Rattle.refusals.specs.declared.Refusal.TheVariants.{LineLabel, BookForm}

-- ── without computing ──
-- n bytes of the log from the place p on
abbrev pub piece_at : List ℕ → ℕ → ℕ → List ℕ
piece_at log p n = take n (drop p log)

-- a piece "wholly inside the log" and with "a label's form"
pub record LabelAt (log : List ℕ) (p n : ℕ) : Type 0 where
  pub inside : p + n ≤ length log
  pub label : IsLabel (capitals (piece_at log p n))

-- "Answers: 27 for a book outside this form, 13 for a piece not wholly inside the log or without a label's form, in that order."
pub data MetPiece (book log : List ℕ) (p n c : ℕ) : Type 0 where
  no_book : ((es : List Entry) → Book book es → ⊥) → c ≡ 27 → MetPiece book log p n c
  no_label : (es : List Entry) → Book book es → (LabelAt log p n → ⊥) → c ≡ 13 → MetPiece book log p n c

-- "the book's own text where the label is listed"
pub record TextOfBook (book log : List ℕ) (p n start end : ℕ) : Type 0 where
  pub entries : List Entry
  pub is_book : Book book entries
  pub is_label : LabelAt log p n
  pub text : TextAt entries (piece_at log p n) start end

-- "otherwise the label's bytes as they stand in the log"
pub record BytesOfLog (book log : List ℕ) (p n start end : ℕ) : Type 0 where
  pub entries : List Entry
  pub is_book : Book book entries
  pub is_label : LabelAt log p n
  pub not_listed : NotListed entries (piece_at log p n)
  pub starts : start ≡ p
  pub ends : end ≡ p + n

-- what an answer says, whichever it is
pub record PieceMeans (book log : List ℕ) (p n : ℕ) (r : Result Piece Refusal) : Type 0 where
  pub refused : (c : ℕ) → RefusedWith c r ↔ MetPiece book log p n c
  pub in_book : (start end : ℕ) → (r ≡ Ok (InBook start end)) ↔ TextOfBook book log p n start end
  pub in_log : (start end : ℕ) → (r ≡ Ok (InLog start end)) ↔ BytesOfLog book log p n start end

-- ── by computing ──
-- whether a piece is a label
unfoldable pub label_at? : List ℕ → ℕ → ℕ → Bool
label_at? log p n = leb (p + n) (length log) && label_form? (capitals (piece_at log p n))

-- the bytes of a piece, or none where it is not wholly inside the log
abbrev pub bytes_inside : List ℕ → ℕ → ℕ → List ℕ
bytes_inside log p n = cond (leb (p + n) (length log)) (piece_at log p n) []

-- the piece, by what the lines of a book have for the label
abbrev pub piece_of : Option (ℕ × ℕ) → ℕ → ℕ → Piece
piece_of (Some t) p n = InBook t.0 t.1
piece_of None p n = InLog p (p + n)

abbrev pub piece_in : Option (List Entry) → List ℕ → ℕ → ℕ → Result Piece Refusal
piece_in None log p n = Err BookForm
piece_in (Some es) log p n = cond (label_at? log p n) (Ok (piece_of (text_from 0 es (piece_at log p n)) p n)) (Err LineLabel)

unfoldable pub piece_for : List ℕ → List ℕ → ℕ → ℕ → Result Piece Refusal
piece_for book log p n = piece_in (book_of book) log p n

-- ── the calls ──
-- a piece is some bytes of the book or of the log
abbrev pub LiesInside : List ℕ → List ℕ → Result Piece Refusal → Type 0
LiesInside book log (Ok (InBook start end)) = (start < end) × (end ≤ length book)
LiesInside book log (Ok (InLog start end)) = (start < end) × (end ≤ length log)
LiesInside book log (Err e) = Unit

-- the twin: "the piece is stated by its place"
pub record TellsPiece (book log : List ℕ) (p n : ℕ) (r : Result Piece Refusal) : Type 0 where
  pub answer : r ≡ piece_for book log p n
  pub meaning : PieceMeans book log p n r
  pub inside : LiesInside book log r

-- a part of a lent slice: in the slice's own memory, `start` bytes behind where the slice stands. "Nothing is copied"
pub record SliceOf (s : Bor (List ℕ)) (start end : ℕ) (r : Bor (List ℕ)) : Type 0 where
  pub block : r.ref_ptr.0 ≡ s.ref_ptr.0
  pub offset : r.ref_ptr.1 ≡ start + s.ref_ptr.1
  pub bytes : r.now ≡ take (end - start) (drop start s.now)

-- the part that a piece is; where it is refused, no bytes. Where these stand the paper leaves open: at the front of the log
abbrev pub StandsIn : Bor (List ℕ) → Bor (List ℕ) → Result Piece Refusal → Bor (List ℕ) → Type 0
StandsIn book log (Ok (InBook start end)) r = SliceOf book start end r
StandsIn book log (Ok (InLog start end)) r = SliceOf log start end r
StandsIn book log (Err e) r = SliceOf log 0 0 r

-- what is handed back: the part where the twin says, "and is empty exactly when a twin call answers a refusal"
pub record Hands (book log : Bor (List ℕ)) (p n : ℕ) (r : Bor (List ℕ)) : Type 0 where
  pub piece : Result Piece Refusal
  pub told : TellsPiece book.now log.now p n piece
  pub stands : StandsIn book log piece r
  pub empty : (length r.now ≡ 0) ↔ ((c : ℕ) × RefusedWith c piece)
