-- The first 25 bytes of the input decide what is printed. Where they are not the whole input, it is no label, and neither are they: both
-- are refused with 13, or with 27 where the book is none.
use Prim.Native.Nat.{ℕ, ◌+◌, ◌<◌}
use mathlib.Core.Path.{◌≡◌, refl, ap, sym, ◌∙◌}
use mathlib.Core.Bool.{Bool, true, false, ◌&&◌}
use mathlib.Core.List.{List, []}
use native.Mathlib.Omega.{arith}
use lib.Dec.{leb}
use lib.ListN.{length, take}
use lib.Seq.{take_all, length-take-le}
use Rattle.lists.proofs.Cases.{either_lt}
use Rattle.labels.specs.Label.{capitals, label_form?}
use Rattle.labels.proofs.Form.{form_long}
use Rattle.label_book.specs.Book.{Entry}
use Rattle.label_book.specs.Reading.{book_of}
use Rattle.label_book.specs.Piece.{label_at?}
use Rattle.std.specs.Prelude.{Option, None, Some, Err}
use Rattle.refusals.specs.Refusal.{number}
use Rattle.refusals.specs.declared.Refusal.{Refusal}
use Rattle.refusals.specs.declared.Refusal.TheVariants.{LineLabel, BookForm}
use Rattle.label_book.proofs.Meaning.{no_lines, other_piece}
use Rattle.told.specs.Told.{refusal_line}
use Rattle.label_text.specs.Printed.{label_room, input_piece, piece_bytes, refused_line, text_printed, refusal_printed}

and-false : (b : Bool) → b && false ≡ false
and-false true = refl
and-false false = refl

no_label : (label : List ℕ) → 24 < length label → label_at? label 0 (length label) ≡ false
unfolding label_at?
no_label label h =
    let inside : Bool = leb (0 + length label) (length label) in
    ap (λ (s : List ℕ). inside && label_form? (capitals s)) (take_all (length label) label (omega arith))
    ∙ (ap (λ (form : Bool). inside && form) (sym (form_long label h)) ∙ and-false inside)

-- the refusal with which a book refuses each long label
long_refused : (book : List ℕ) → (e : Refusal) × ((label : List ℕ) → 24 < length label → input_piece book label ≡ Err e)
long_refused book = go (book_of book) refl
  where
    go : (o : Option (List Entry)) → book_of book ≡ o → (e : Refusal) × ((label : List ℕ) → 24 < length label → input_piece book label ≡ Err e)
    go None e = (BookForm, λ label h. no_lines book label 0 (length label) e)
    go (Some es) e = (LineLabel, λ label h. other_piece book label 0 (length label) es e (no_label label h))

-- what the refusal decides for a refused label is decided by the first bytes
module _ (book : List ℕ) (f : List ℕ → List ℕ) (s : Refusal → List ℕ) (told : (label : List ℕ) (e : Refusal) → input_piece book label ≡ Err e → f label ≡ s e) where
  first_bytes_decide : (input : List ℕ) → f (take label_room input) ≡ f input
  first_bytes_decide input =
      either_lt (length input) label_room
      (λ h. ap f (take_all label_room input (omega arith)))
      (λ h.
      let r = long_refused book in
      let l : length (take label_room input) ≡ label_room = length-take-le label_room input h in
      told (take label_room input) r.0 (r.1 (take label_room input) (omega arith)) ∙ sym (told input r.0 (r.1 input (omega arith))))

-- THE LAW: nothing past the first 25 bytes of an input changes what is printed.
pub first_bytes_decide_text : (book input : List ℕ) → text_printed book (take label_room input) ≡ text_printed book input
unfolding text_printed
first_bytes_decide_text book = first_bytes_decide book (text_printed book) (λ _. []) (λ label c e. ap (piece_bytes book label) e)

pub first_bytes_decide_refusal : (book input : List ℕ) → refusal_printed book (take label_room input) ≡ refusal_printed book input
unfolding refusal_printed
first_bytes_decide_refusal book = first_bytes_decide book (refusal_printed book) (λ e. refusal_line (number e)) (λ label c e. ap refused_line e)
