-- What `Book.antt` says, by computing: the lines of a book, and where it has the text of a label.
use Rattle.std.specs.Prelude.{Result, Ok, Err, ℕ, zero, suc, ◌+◌, Bool, true, false, not, ◌&&◌, ◌||◌, cond, List, [], ◌∷◌, eqb, leb, ltb, length, take, drop, get_or}
use Rattle.std.specs.Prelude.{Option, None, Some}
use Rattle.lists.specs.Lists.{same?}
use Rattle.labels.specs.Label.{letter?, capital, capitals, label_length?}
use Rattle.label_book.specs.Book.{Entry, entry_bytes}
use Rattle.refusals.specs.declared.Refusal.{Refusal}
use Rattle.refusals.specs.declared.Refusal.TheVariants.{BookForm}

-- ── one line ──
-- a byte of a label, in either case; a byte of a text, "without LF or `=`"
unfoldable pub label_byte? : ℕ → Bool
label_byte? b = letter? (capital b)

unfoldable pub text_byte? : ℕ → Bool
text_byte? b = not (eqb b 10) && not (eqb b 61)

abbrev pub fits? : Bool → ℕ → Bool
fits? true = text_byte?
fits? false = label_byte?

-- how many bytes pass a test before the first that does not
abbrev pub span : (ℕ → Bool) → List ℕ → ℕ
span f [] = 0
span f (x ∷ xs) = cond (f x) (suc (span f xs)) 0

-- "1 to 60 bytes of text"
abbrev pub max_text_bytes : ℕ
max_text_bytes = 60

-- n bytes of a label, `=`, m bytes of text, LF
unfoldable pub line? : ℕ → ℕ → List ℕ → Bool
line? n m b = label_length? n && eqb (get_or b n 0) 61 && leb 1 m && leb m max_text_bytes && eqb (get_or b (n + 1 + m) 0) 10

abbrev pub label_span : List ℕ → ℕ
label_span b = span label_byte? b

abbrev pub text_span : List ℕ → ℕ
text_span b = span text_byte? (drop (label_span b + 1) b)

-- the line at the front of some bytes: how many bytes its label has, and its text; or none
unfoldable pub line_of : List ℕ → Option (ℕ × ℕ)
line_of b = cond (line? (label_span b) (text_span b) b) (Some (label_span b, text_span b)) None

-- ── the lines of a book ──
abbrev pub entry_at : ℕ → ℕ → List ℕ → Entry
entry_at n m b = record { label = take n b; text = take m (drop (n + 1) b) }

abbrev pub with_entry : Entry → Option (List Entry) → Option (List Entry)
with_entry e None = None
with_entry e (Some es) = Some (e ∷ es)

abbrev pub when_read : {A : Type 0} → Option (ℕ × ℕ) → (ℕ → ℕ → A) → A → A
when_read (Some l) f d = f l.0 l.1
when_read None f d = d

-- the lines of what is left past `skip` bytes, or none where these are no lines
unfoldable pub entries_from : ℕ → List ℕ → Option (List Entry)
entries_from skip [] = Some []
entries_from (suc skip) (x ∷ b) = entries_from skip b
entries_from zero (x ∷ b) = when_read (line_of (x ∷ b)) (λ n m. with_entry (entry_at n m (x ∷ b)) (entries_from (n + m + 1) b)) None

-- ── their order ──
abbrev pub before? : List ℕ → List ℕ → Bool
before? [] [] = false
before? [] (y ∷ t) = true
before? (x ∷ s) [] = false
before? (x ∷ s) (y ∷ t) = ltb x y || eqb x y && before? s t

-- each label is behind the one before it, and the first behind `last`; every label has a byte, so each is behind no bytes
abbrev pub rising_from? : List ℕ → List Entry → Bool
rising_from? last [] = true
rising_from? last (e ∷ es) = before? (capitals last) (capitals e.label) && rising_from? e.label es

abbrev pub put_in_order : Option (List Entry) → Option (List Entry)
put_in_order None = None
put_in_order (Some es) = cond (rising_from? [] es) (Some es) None

-- the lines of a book, or none for bytes that are no book
unfoldable pub book_of : List ℕ → Option (List Entry)
book_of b = put_in_order (entries_from 0 b)

-- ── the text of a label ──
-- from the first byte to past the last, in lines that begin at the place `at`; none where no line has the label
abbrev pub text_from : ℕ → List Entry → List ℕ → Option (ℕ × ℕ)
text_from at [] l = None
text_from at (e ∷ es) l =
    cond (same? (capitals l) (capitals e.label))
    (Some (at + length e.label + 1, at + length e.label + 1 + length e.text))
    (text_from (at + length (entry_bytes e)) es l)

-- "27 for a book outside this form"
abbrev pub listing : Option (List Entry) → List ℕ → Result (Option (ℕ × ℕ)) Refusal
listing None l = Err BookForm
listing (Some es) l = Ok (text_from 0 es l)

unfoldable pub look_up : List ℕ → List ℕ → Result (Option (ℕ × ℕ)) Refusal
look_up b l = listing (book_of b) l
