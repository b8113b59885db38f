-- The house label book: what a book is, said without computing. "A lent book has zero or more lines of a label, one `=`, and 1 to 60
-- bytes of text without LF or `=`, each ended by LF, in byte order of the labels' capitals, without repeats."
use Rattle.std.specs.Prelude.{ℕ, ◌+◌, ◌<◌, ◌≤◌, ◌≡◌, ◌≢◌, List, [], ◌∷◌, ◌++◌, length, get_or}
use Rattle.lists.specs.Lists.{bytes}
use Rattle.labels.specs.Label.{capitals}
use Rattle.grammar.specs.Written.{EachByte, IsLabel}

-- a line of a book: its label as it is written, and its text
pub record Entry : Type 0 where
  pub label : List ℕ
  pub text : List ℕ

abbrev pub no_entry : Entry
no_entry = record { label = []; text = [] }

-- "a label, one `=`, and .. text .., each ended by LF"
abbrev pub entry_bytes : Entry → List ℕ
entry_bytes e = e.label ++ bytes "=" ++ e.text ++ bytes "\n"

abbrev pub book_bytes : List Entry → List ℕ
book_bytes [] = []
book_bytes (e ∷ es) = entry_bytes e ++ book_bytes es

-- "a label", in either case; "1 to 60 bytes of text without LF or `=`"
pub record RightEntry (e : Entry) : Type 0 where
  pub label : IsLabel (capitals e.label)
  pub some : 1 ≤ length e.text
  pub few : length e.text ≤ 60
  pub bytes : EachByte (λ b. (b ≢ 10) × (b ≢ 61)) e.text

-- byte order: the first byte that differs decides, and a byte string comes before a longer one that begins with it
pub data InByteOrder (s t : List ℕ) : Type 0 where
  shorter : (b : ℕ) (more : List ℕ) → t ≡ s ++ (b ∷ more) → InByteOrder s t
  smaller : (front : List ℕ) (b c : ℕ) (u v : List ℕ) → s ≡ front ++ (b ∷ u) → t ≡ front ++ (c ∷ v) → b < c → InByteOrder s t

-- the capitals of the label of line i
abbrev pub capitals_at : List Entry → ℕ → List ℕ
capitals_at es i = capitals (get_or es i no_entry).label

-- "in byte order of the labels' capitals, without repeats": no byte string is before itself
abbrev pub LabelsRise : List Entry → Type 0
LabelsRise es = (i j : ℕ) → i < j → j < length es → InByteOrder (capitals_at es i) (capitals_at es j)

-- the bytes b are the book with these lines
pub record Book (b : List ℕ) (es : List Entry) : Type 0 where
  pub lines : b ≡ book_bytes es
  pub right : (i : ℕ) → i < length es → RightEntry (get_or es i no_entry)
  pub rising : LabelsRise es

-- the same lines but for the case of their labels
abbrev pub SameButCase : List Entry → List Entry → Type 0
SameButCase es fs =
    (length es ≡ length fs)
    × ((i : ℕ) → i < length es → (capitals_at es i ≡ capitals_at fs i) × ((get_or es i no_entry).text ≡ (get_or fs i no_entry).text))

-- "Labels compare as in F-7": the label l is that of a line, whose text stands behind the lines before it, its label and the `=`
pub record TextAt (es : List Entry) (l : List ℕ) (start end : ℕ) : Type 0 where
  pub before : List Entry
  pub entry : Entry
  pub after : List Entry
  pub lines : es ≡ before ++ (entry ∷ after)
  pub label : capitals entry.label ≡ capitals l
  pub starts : start ≡ length (book_bytes before) + length entry.label + 1
  pub ends : end ≡ start + length entry.text

abbrev pub NotListed : List Entry → List ℕ → Type 0
NotListed es l = (i : ℕ) → i < length es → capitals_at es i ≢ capitals l
