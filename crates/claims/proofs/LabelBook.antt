-- The label book, from the promises of its two calls and the laws of its lines.
use Prim.Native.Nat.{ℕ, ◌+◌, ◌-◌}
use mathlib.Core.Path.{◌≡◌, refl, ap, sym, subst, ◌∙◌}
use Rattle.std.specs.Prelude.{Result, Ok, Some}
use Rattle.refusals.specs.declared.Refusal.{Refusal}
use Rattle.refusals.specs.Refusal.{RefusedWith}
use mathlib.Core.List.{List}
use native.Mathlib.Omega.{arith}
use lib.ListN.{take, drop}
use denote.Ref.{Bor}
use Rattle.label_book.specs.declared.Piece.{Piece}
use Rattle.label_book.specs.declared.Piece.TheVariants.{InBook, InLog}
use Rattle.label_book.specs.Book.{Entry, InByteOrder, capitals_at, Book}
use Rattle.label_book.specs.Piece.{piece_at, MetPiece, no_book, no_label, TextOfBook, BytesOfLog, TellsPiece, SliceOf, StandsIn, Hands}
use Rattle.label_book.proofs.Order.{never_before_itself}
use Rattle.label_book.proofs.Written.{text_there}
use Rattle.label_book.proofs.Meaning.{book_read}
use Rattle.label_book.proofs.OtherCase.{other_log, other_book}
use Rattle.claims.specs.Demand1.{Listed}
use Rattle.claims.specs.LabelBook.{PartAt, LabelBook}
use Rattle.claims.proofs.Refusals.{lent_nothing}

one_list : (b : List ℕ) (es fs : List Entry) → Book b es → Book b fs → es ≡ fs
one_list b es fs h k = let e : Some es ≡ Some fs = sym ((book_read b es).1 h) ∙ (book_read b fs).1 k in cc

piece_listed : (book log : List ℕ) (p n c : ℕ) → MetPiece book log p n c → Listed c
piece_listed book log p n c (no_book h e) = omega arith
piece_listed book log p n c (no_label es k h e) = omega arith

own_text : (book log : List ℕ) (p n start end : ℕ) (w : TextOfBook book log p n start end) → take (end - start) (drop start book) ≡ w.text.entry.text
own_text book log p n start end w =
    ap (λ (b : List ℕ). take (end - start) (drop start b)) w.is_book.lines ∙ text_there w.entries (piece_at log p n) start end w.text

own_bytes : (book log : List ℕ) (p n start end : ℕ) → BytesOfLog book log p n start end → take (end - start) (drop start log) ≡ piece_at log p n
own_bytes book log p n start end w =
    let e : end - start ≡ n = omega (arith, w.starts, w.ends) in
    rw (e, w.starts) refl

-- where the part stands that is handed back, by the answer of the twin
module _ (book log : Bor (List ℕ)) (p n : ℕ) (t : Bor (List ℕ)) (h : Hands book log p n t) (r : Result Piece Refusal) (w : TellsPiece book.now log.now p n r) where
  stands_as : (x : Result Piece Refusal) → r ≡ x → StandsIn book log x t
  stands_as x e = subst (λ (y : Result Piece Refusal). StandsIn book log y t) (h.told.answer ∙ (sym w.answer ∙ e)) h.stands

  same_piece : h.piece ≡ r
  same_piece = h.told.answer ∙ sym w.answer

  handed_text : (start end : ℕ) (u : TextOfBook book.now log.now p n start end) → PartAt book start u.text.entry.text t
  handed_text start end u =
      let s : SliceOf book start end t = stands_as (Ok (InBook start end)) ((w.meaning.in_book start end).1 u) in
      record { block = s.block; offset = s.offset; read = s.bytes ∙ own_text book.now log.now p n start end u }

  handed_bytes : (start end : ℕ) → BytesOfLog book.now log.now p n start end → PartAt log p (piece_at log.now p n) t
  handed_bytes start end u =
      let s : SliceOf log start end t = stands_as (Ok (InLog start end)) ((w.meaning.in_log start end).1 u) in
      record {
        block = s.block;
        offset = s.offset ∙ ap (λ (k : ℕ). k + log.ref_ptr.1) u.starts;
        read = s.bytes ∙ own_bytes book.now log.now p n start end u;
      }

pub the_label_book : LabelBook
the_label_book =
    record {
      form = book_read;
      one_list = one_list;
      no_repeats = λ b es k i j h l e.
          never_before_itself (capitals_at es j) (subst (λ (s : List ℕ). InByteOrder s (capitals_at es j)) e (k.rising i j h l));
      refused = λ book log p n r w c. lent_nothing c (w.meaning.refused c) (piece_listed book log p n c);
      in_book = λ book log p n r w. w.meaning.in_book;
      own_text = own_text;
      in_log = λ book log p n r w. w.meaning.in_log;
      own_bytes = own_bytes;
      other_log = λ book log log' e p n r r' w w'. w.answer ∙ (other_log log log' e p n book ∙ sym w'.answer);
      other_book = λ book book' log es es' k k' c p n r r' w w'.
          w.answer ∙ (other_book book book' log es es' ((book_read book es).1 k) ((book_read book' es').1 k') c p n ∙ sym w'.answer);
      handed_text = handed_text;
      handed_bytes = handed_bytes;
      empty = λ book log p n t h r w.
          let e = same_piece book log p n t h r w in
          (λ z. subst (λ (x : Result Piece Refusal). (c : ℕ) × RefusedWith c x) e (h.empty.0 z), λ k. h.empty.1 (subst (λ (x : Result Piece Refusal). (c : ℕ) × RefusedWith c x) (sym e) k));
    }
