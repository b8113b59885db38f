-- What a book and a piece are, and what is computed: the lines of a book are computed exactly where it is one, and the piece is the one
-- that its meaning says.
use Prim.Native.Nat.{ℕ, ◌+◌, ◌≤◌, ◌<◌}
use mathlib.Core.Path.{◌≡◌, refl, ap, sym, subst, ◌∙◌}
use mathlib.Core.Logic.{◌↔◌}
use mathlib.Core.Bool.{Bool, true, false, cond}
use Rattle.std.specs.Prelude.{Option, None, Some}
use mathlib.Core.List.{List, [], ◌∷◌}
use native.Mathlib.Omega.{arith}
use borrow.Author.Tests.{le-leb, leb-true}
use lib.Dec.{leb}
use lib.ListN.{length, get_or, length-append, length-take, length-map}
use lib.Seq.{get_or-append_seam}
use Rattle.lists.proofs.Cases.{either_bool, no_both, never, and_left, and_right}
use Rattle.labels.specs.Label.{capital, capitals, label_form?}
use Rattle.grammar.proofs.Written.{form_is_label}
use Rattle.std.specs.Prelude.{Result, Ok, Err}
use Rattle.refusals.specs.Refusal.{number, RefusedWith}
use Rattle.refusals.specs.declared.Refusal.{Refusal}
use Rattle.refusals.specs.declared.Refusal.TheVariants.{LineLabel, BookForm}
use Rattle.label_book.specs.declared.Piece.{Piece}
use Rattle.label_book.specs.declared.Piece.TheVariants.{InBook, InLog}
use Rattle.label_book.specs.Book.{Entry, no_entry, RightEntry, LabelsRise, Book, TextAt}
use Rattle.label_book.specs.Reading.{entries_from, rising_from?, put_in_order, book_of, text_from}
use Rattle.label_book.specs.Piece.{piece_at, LabelAt, MetPiece, no_book, no_label, TextOfBook, BytesOfLog, PieceMeans, label_at?, piece_of, piece_for, LiesInside, TellsPiece}
use Rattle.label_book.proofs.Order.{rising_is}
use Rattle.label_book.proofs.Texts.{text_missing, text_listed}
use Rattle.label_book.proofs.Written.{entries_written, text_some, text_within}

-- ── a book ──
module _ (b : List ℕ) (es : List Entry) where
  abbrev EachRight : Type 0
  EachRight = (i : ℕ) → i < length es → RightEntry (get_or es i no_entry)

  rises : EachRight → (rising_from? [] es ≡ true) ↔ LabelsRise es
  rises r = rising_is es (λ i h. (r i h).label.some)

  made : entries_from 0 b ≡ Some es → rising_from? [] es ≡ true → Book b es
  made e q = let w = (entries_written b es).0 e in record { lines = w.0; right = w.1; rising = (rises w.1).0 q }

  read : book_of b ≡ Some es → Book b es
  unfolding book_of
  read q = go (entries_from 0 b) refl q
    where
      told : (fs : List Entry) (r : Bool) → entries_from 0 b ≡ Some fs → rising_from? [] fs ≡ r → cond r (Some fs) None ≡ Some es → Book b es
      told fs true e p q = let f : fs ≡ es = cc in made (e ∙ ap Some f) (ap (rising_from? []) (sym f) ∙ p)
      told fs false e p q = never cc

      go : (o : Option (List Entry)) → entries_from 0 b ≡ o → put_in_order o ≡ Some es → Book b es
      go None e q = never cc
      go (Some fs) e q = told fs (rising_from? [] fs) e refl q

  known : Book b es → book_of b ≡ Some es
  unfolding book_of
  known k =
      let e : entries_from 0 b ≡ Some es = (entries_written b es).1 (k.lines, k.right) in
      let q : rising_from? [] es ≡ true = (rises k.right).1 k.rising in
      ap put_in_order e ∙ simp q

  -- the lines are computed exactly if these bytes are the book with these lines; so a book has one list of lines
  pub book_read : (book_of b ≡ Some es) ↔ Book b es
  book_read = (read, known)

-- ── a piece of the log ──
module _ (log : List ℕ) (p n : ℕ) where
  pub label_at_is : (label_at? log p n ≡ true) ↔ LabelAt log p n
  unfolding label_at?
  label_at_is = (
    (λ e.
        let l = leb (p + n) (length log) in
        let f = label_form? (capitals (piece_at log p n)) in
        record { inside = leb-true (p + n) (length log) (and_left l f e); label = (form_is_label (capitals (piece_at log p n))).0 (and_right l f e) }),
    (λ w. simp (le-leb (p + n) (length log) w.inside) ((form_is_label (capitals (piece_at log p n))).1 w.label)),
  )

  not_label : (LabelAt log p n → ⊥) → label_at? log p n ≡ false
  not_label h = either_bool (label_at? log p n) (λ e. absurd (h (label_at_is.0 e))) (λ e. e)

-- ── the piece ──
module _ (b log : List ℕ) (p n : ℕ) where
  pub no_lines : book_of b ≡ None → piece_for b log p n ≡ Err BookForm
  unfolding piece_for
  no_lines e = rw e refl

  module _ (es : List Entry) (e : book_of b ≡ Some es) where
    pub other_piece : label_at? log p n ≡ false → piece_for b log p n ≡ Err LineLabel
    unfolding piece_for
    other_piece q = rw e (simp q)

    pub label_piece : label_at? log p n ≡ true → (o : Option (ℕ × ℕ)) → text_from 0 es (piece_at log p n) ≡ o → piece_for b log p n ≡ Ok (piece_of o p n)
    unfolding piece_for
    label_piece q o t = rw e (simp q (ap (λ (k : Option (ℕ × ℕ)). Ok (piece_of k p n)) t))

  -- what is met is what is answered
  met_answered : (c : ℕ) → MetPiece b log p n c → RefusedWith c (piece_for b log p n)
  met_answered c (no_book h q) = (BookForm, (go (book_of b) refl, sym q))
    where
      go : (o : Option (List Entry)) → book_of b ≡ o → piece_for b log p n ≡ Err BookForm
      go None e = no_lines e
      go (Some es) e = absurd (h es ((book_read b es).0 e))
  met_answered c (no_label es k h q) = (LineLabel, (other_piece es ((book_read b es).1 k) (not_label log p n h), sym q))

  listed-answered : (start end : ℕ) → TextOfBook b log p n start end → piece_for b log p n ≡ Ok (InBook start end)
  listed-answered start end w =
      label_piece w.entries ((book_read b w.entries).1 w.is_book) ((label_at_is log p n).1 w.is_label) (Some (start, end))
      ((text_listed w.entries (piece_at log p n) w.is_book.rising start end).1 w.text)

  unlisted_answered : (start end : ℕ) → BytesOfLog b log p n start end → piece_for b log p n ≡ Ok (InLog start end)
  unlisted_answered start end w =
      label_piece w.entries ((book_read b w.entries).1 w.is_book) ((label_at_is log p n).1 w.is_label) None
      ((text_missing w.entries (piece_at log p n)).1 w.not_listed)
      ∙ (rw (w.starts, w.ends) refl)

  -- what is answered is what is met, and a piece is some bytes
  abbrev Said : Result Piece Refusal → Type 0
  Said (Ok (InBook start end)) = TextOfBook b log p n start end
  Said (Ok (InLog start end)) = BytesOfLog b log p n start end
  Said (Err e) = MetPiece b log p n (number e)

  said_of : (es : List Entry) → Book b es → LabelAt log p n → (o : Option (ℕ × ℕ)) → text_from 0 es (piece_at log p n) ≡ o → Said (Ok (piece_of o p n))
  said_of es k l (Some s) t = record { entries = es; is_book = k; is_label = l; text = (text_listed es (piece_at log p n) k.rising s.0 s.1).0 t }
  said_of es k l None t =
      record { entries = es; is_book = k; is_label = l; not_listed = (text_missing es (piece_at log p n)).0 t; starts = refl; ends = refl }

  answered_said : Said (piece_for b log p n)
  answered_said = go (book_of b) refl
    where
      some_lines : (es : List Entry) → book_of b ≡ Some es → Said (piece_for b log p n)
      some_lines es e =
          either_bool (label_at? log p n)
          (λ q.
          let o = text_from 0 es (piece_at log p n) in
          subst Said (sym (label_piece es e q o refl)) (said_of es ((book_read b es).0 e) ((label_at_is log p n).0 q) o refl))
          (λ q.
          subst Said (sym (other_piece es e q))
          (no_label es ((book_read b es).0 e) (λ l. no_both (sym ((label_at_is log p n).1 l) ∙ q)) refl))

      go : (o : Option (List Entry)) → book_of b ≡ o → Said (piece_for b log p n)
      go None e = subst Said (sym (no_lines e)) (no_book (λ es k. let z : None ≡ Some es = sym e ∙ (book_read b es).1 k in never cc) refl)
      go (Some es) e = some_lines es e

  pub piece_means : PieceMeans b log p n (piece_for b log p n)
  piece_means =
      record {
        refused = λ c. (λ w. subst (MetPiece b log p n) w.1.1 (subst Said w.1.0 answered_said), met_answered c);
        in_book = λ start end. (λ e. subst Said e answered_said, listed-answered start end);
        in_log = λ start end. (λ e. subst Said e answered_said, unlisted_answered start end);
      }

  right_text : (es : List Entry) (l : List ℕ) (start end : ℕ) → Book b es → (t : TextAt es l start end) → RightEntry t.entry
  right_text es l start end k t =
      let i = length t.before in
      let r = k.right i (rw t.lines (omega (arith, length-append t.before (t.entry ∷ t.after)))) in
      subst RightEntry (ap (λ (xs : List Entry). get_or xs i no_entry) t.lines ∙ get_or-append_seam t.before t.entry t.after no_entry) r

  said_inside : (r : Result Piece Refusal) → Said r → LiesInside b log r
  said_inside (Ok (InBook start end)) w =
      let t = w.text in (
        text_some w.entries (piece_at log p n) start end t (right_text w.entries (piece_at log p n) start end w.is_book t).some,
        (rw w.is_book.lines (text_within w.entries (piece_at log p n) start end t)),
      )
  said_inside (Ok (InLog start end)) w =
      let l = w.is_label in
      (omega (arith, w.starts, w.ends, piece_some l), omega (arith, w.ends, l.inside))
    where
      piece_some : LabelAt log p n → 1 ≤ n
      piece_some l =
          let e : length (capitals (piece_at log p n)) ≡ length (piece_at log p n) = length-map (piece_at log p n) capital in
          let m : length (piece_at log p n) ≤ n = simp length-take (omega arith) in
          omega (arith, e, m, l.label.some)
  said_inside (Err e) w = tt

  -- a call that answers the piece keeps its whole promise
  pub places : (r : Result Piece Refusal) → r ≡ piece_for b log p n → TellsPiece b log p n r
  places r e =
      record {
        answer = e;
        meaning = subst (PieceMeans b log p n) (sym e) piece_means;
        inside = subst (LiesInside b log) (sym e) (said_inside (piece_for b log p n) answered_said);
      }
