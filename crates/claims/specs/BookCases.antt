-- Worked cases of the label book: some books, some pieces, and what is answered. Where a text stands is counted by
-- hand.
use Rattle.std.specs.Prelude.{Result, Ok, Err, ℕ, ◌≡◌, List, [], ◌∷◌, ◌++◌, take, drop, replicate}
use Rattle.lists.specs.Lists.{bytes}
use Rattle.label_book.specs.declared.Piece.{Piece}
use Rattle.label_book.specs.declared.Piece.TheVariants.{InBook, InLog}
use Rattle.refusals.specs.declared.Refusal.{Refusal}
use Rattle.refusals.specs.declared.Refusal.TheVariants.{LineLabel, BookForm}
use Rattle.label_book.specs.Piece.{piece_for}

-- lines of 7, 21 and 29 bytes
abbrev pub house : List ℕ
house = bytes "A1=One\nEVENING=Evening, all\nevening_w=Evening, west hall\n"

-- what a book answers for the label A of a log
abbrev pub for_a : List ℕ → Result Piece Refusal
for_a book = piece_for book (bytes "B 7 A\n") 4 1

-- what the house's book answers for a piece of a log
abbrev pub in_house : List ℕ → ℕ → ℕ → Result Piece Refusal
in_house log p n = piece_for house log p n

-- a text of n bytes for the label A; a label of n bytes
abbrev pub long_text : ℕ → List ℕ
long_text n = bytes "A=" ++ replicate n 120 ++ bytes "\n"

abbrev pub long_label : ℕ → List ℕ
long_label n = replicate n 65 ++ bytes "=x\n"

pub record BookCases : Type 0 where
  -- "Clients read "Evening, west hall" and not EVENING_W."
  pub west : in_house (bytes "B 7 EVENING_W\n") 4 9 ≡ Ok (InBook 38 56)
  pub west_text : take 18 (drop 38 house) ≡ bytes "Evening, west hall"
  -- in another case, and not the line whose label is the front of it
  pub small : in_house (bytes "B 7 evening\n") 4 7 ≡ Ok (InBook 15 27)
  pub small_text : take 12 (drop 15 house) ≡ bytes "Evening, all"
  -- "otherwise the label's bytes as they stand in the log"; an id's digits have a label's form too
  pub not_listed : in_house (bytes "B 7 TEST\n") 4 4 ≡ Ok (InLog 4 8)
  pub digits : in_house (bytes "B 123\n") 2 3 ≡ Ok (InLog 2 5)
  -- a piece inside a word; a label to its last byte
  pub in_word : in_house (bytes "B 7 TEST\n") 4 3 ≡ Ok (InLog 4 7)
  pub last_differs : in_house (bytes "B 7 EVENING_X\n") 4 9 ≡ Ok (InLog 4 13)
  pub no_lines : piece_for [] (bytes "B 7 TEST\n") 4 4 ≡ Ok (InLog 4 8)
  -- "13 for a piece not wholly inside the log or without a label's form"
  pub no_bytes : in_house (bytes "B 7 TEST\n") 4 0 ≡ Err LineLabel
  pub line_end : in_house (bytes "B 7 TEST\n") 4 5 ≡ Err LineLabel
  pub over_end : in_house (bytes "B 7 TEST") 4 5 ≡ Err LineLabel
  pub last_byte : in_house (bytes "B 7 TEST") 7 1 ≡ Ok (InLog 7 8)
  pub behind_end : in_house (bytes "B 7 TEST") 8 1 ≡ Err LineLabel
  pub far_behind : in_house (bytes "B 7 TEST\n") 18446744073709551615 2 ≡ Err LineLabel
  pub too_long : in_house (replicate 25 65) 0 25 ≡ Err LineLabel
  pub long_enough : in_house (replicate 24 65) 0 24 ≡ Ok (InLog 0 24)
  -- "in that order"
  pub book_first : piece_for (bytes "A=\n") (bytes "B 7 A\n") 4 0 ≡ Err BookForm
  -- "a label, one `=`, and 1 to 60 bytes of text without LF or `=`, each ended by LF"
  pub one_byte : for_a (long_text 1) ≡ Ok (InBook 2 3)
  pub sixty_bytes : for_a (long_text 60) ≡ Ok (InBook 2 62)
  pub no_text : for_a (long_text 0) ≡ Err BookForm
  pub sixty_one_bytes : for_a (long_text 61) ≡ Err BookForm
  pub two_signs : for_a (bytes "A=x=y\n") ≡ Err BookForm
  pub no_sign : for_a (bytes "A\n") ≡ Err BookForm
  pub no_last_lf : for_a (bytes "A=x") ≡ Err BookForm
  pub empty_line : for_a (bytes "A=x\n\n") ≡ Err BookForm
  pub no_label : for_a (bytes "=x\n") ≡ Err BookForm
  pub wrong_label : for_a (bytes "A B=x\n") ≡ Err BookForm
  pub minus : for_a (bytes "A-B=x\n") ≡ Err BookForm
  pub label_of-24 : for_a (long_label 24) ≡ Ok (InLog 4 5)
  pub label_of-25 : for_a (long_label 25) ≡ Err BookForm
  -- any other byte may stand in a text, at its ends too: a space, NUL, a quote, a byte above 127, CR
  pub any_byte : for_a (bytes "A=" ++ (32 ∷ 0 ∷ 34 ∷ 228 ∷ 13 ∷ 10 ∷ [])) ≡ Ok (InBook 2 7)
  -- "in byte order of the labels' capitals, without repeats": a label before its longer ones, digits, letters,
  -- underscore
  pub in_order : for_a (bytes "0=v\nA=w\nA0=x\nAA=y\nA_=z\nZ=t\n_=u\n") ≡ Ok (InBook 6 7)
  pub by_capitals : for_a (bytes "a=x\n_=y\n") ≡ Ok (InBook 2 3)
  pub by_bytes : for_a (bytes "_=y\na=x\n") ≡ Err BookForm
  pub longer_first : for_a (bytes "AB=x\nA=y\n") ≡ Err BookForm
  pub letter_first : for_a (bytes "A=x\n9=y\n") ≡ Err BookForm
  pub twice : for_a (bytes "A=x\nA=y\n") ≡ Err BookForm
  pub twice_in_case : for_a (bytes "A=x\na=y\n") ≡ Err BookForm
  -- the whole book is judged, behind the label's line too
  pub bad_behind : for_a (bytes "A=x\nB=\n") ≡ Err BookForm
