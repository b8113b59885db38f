-- The house label book: where the call that tells a piece refuses, what it says otherwise, and what is handed back. A
-- book is for people's eyes: no call that judges a log is lent one.
use Rattle.std.specs.Prelude.{Result, Ok, Some, ℕ, ◌+◌, ◌-◌, ◌<◌, ◌≡◌, ◌↔◌, ◌≢◌, List, length, take, drop}
use Rattle.std.specs.Borrow.{Bor}
use Rattle.labels.specs.Label.{capitals}
use Rattle.label_book.specs.declared.Piece.{Piece}
use Rattle.label_book.specs.declared.Piece.TheVariants.{InBook, InLog}
use Rattle.refusals.specs.Refusal.{RefusedWith}
use Rattle.refusals.specs.declared.Refusal.{Refusal}
use Rattle.label_book.specs.Book.{Entry, capitals_at, Book, SameButCase}
use Rattle.label_book.specs.Reading.{book_of}
use Rattle.label_book.specs.Piece.{piece_at, MetPiece, TextOfBook, BytesOfLog, TellsPiece, Hands}
use Rattle.claims.specs.Demand1.{Refuses}

-- what is said of each answer of the call, for any book, log, place and length
abbrev pub OfTold : ((book log : List ℕ) (p n : ℕ) → Result Piece Refusal → Type 0) → Type 0
OfTold says = (book log : List ℕ) (p n : ℕ) (r : Result Piece Refusal) → TellsPiece book log p n r → says book log p n r

-- what is said of each part that is handed back, and of the answer of the twin
abbrev pub OfHanded : ((book log : Bor (List ℕ)) (p n : ℕ) → Result Piece Refusal → Bor (List ℕ) → Type 0) → Type 0
OfHanded says =
    (book log : Bor (List ℕ)) (p n : ℕ) (t : Bor (List ℕ)) → Hands book log p n t
    → (r : Result Piece Refusal) → TellsPiece book.now log.now p n r → says book log p n r t

-- the same bytes in the same memory: the part t of s begins `start` bytes behind where s stands
pub record PartAt (s : Bor (List ℕ)) (start : ℕ) (bytes : List ℕ) (t : Bor (List ℕ)) : Type 0 where
  pub block : t.ref_ptr.0 ≡ s.ref_ptr.0
  pub offset : t.ref_ptr.1 ≡ start + s.ref_ptr.1
  pub read : t.now ≡ bytes

pub record LabelBook : Type 0 where
  -- the test and the form: the lines are read exactly if the bytes are the book with these lines
  pub form : (b : List ℕ) (es : List Entry) → (book_of b ≡ Some es) ↔ Book b es
  -- no book has two lists of lines, and no label stands twice: "without repeats"
  pub one_list : (b : List ℕ) (es fs : List Entry) → Book b es → Book b fs → es ≡ fs
  pub no_repeats : (b : List ℕ) (es : List Entry) → Book b es
      → (i j : ℕ) → i < j → j < length es → capitals_at es i ≢ capitals_at es j
  -- "27 for a book outside this form, 13 for a piece not wholly inside the log or without a label's form, in that
  -- order"
  pub refused : OfTold (λ book log p n r.
      (c : ℕ) → Refuses c (RefusedWith c r) (MetPiece book log p n c) (Unit {0}))
  -- "the book's own text where the label is listed": where it stands, and that these bytes are the text of its line
  pub in_book : OfTold (λ book log p n r.
      (start end : ℕ) → (r ≡ Ok (InBook start end)) ↔ TextOfBook book log p n start end)
  pub own_text : (book log : List ℕ) (p n start end : ℕ) (w : TextOfBook book log p n start end)
      → take (end - start) (drop start book) ≡ w.text.entry.text
  -- "otherwise the label's bytes as they stand in the log"
  pub in_log : OfTold (λ book log p n r.
      (start end : ℕ) → (r ≡ Ok (InLog start end)) ↔ BytesOfLog book log p n start end)
  pub own_bytes : (book log : List ℕ) (p n start end : ℕ) → BytesOfLog book log p n start end
      → take (end - start) (drop start log) ≡ piece_at log p n
  -- "Labels compare as in F-7": in another case of the log, or of the book's labels, the answer is the same
  pub other_log : (book log log' : List ℕ) → capitals log ≡ capitals log' → (p n : ℕ) (r r' : Result Piece Refusal)
      → TellsPiece book log p n r → TellsPiece book log' p n r' → r ≡ r'
  pub other_book : (book book' log : List ℕ) (es es' : List Entry) → Book book es → Book book' es' → SameButCase es es'
      → (p n : ℕ) (r r' : Result Piece Refusal) → TellsPiece book log p n r → TellsPiece book' log p n r' → r ≡ r'
  -- "hand back the book's own text where the label is listed, otherwise the label's bytes as they stand in the log";
  -- "Nothing is copied"
  pub handed_text : OfHanded (λ book log p n r t.
      (start end : ℕ) (w : TextOfBook book.now log.now p n start end)
      → PartAt book start w.text.entry.text t)
  pub handed_bytes : OfHanded (λ book log p n r t.
      (start end : ℕ) → BytesOfLog book.now log.now p n start end
      → PartAt log p (piece_at log.now p n) t)
  -- "and is empty exactly when a twin call answers a refusal"
  pub empty : OfHanded (λ book log p n r t. (length t.now ≡ 0) ↔ ((c : ℕ) × RefusedWith c r))
