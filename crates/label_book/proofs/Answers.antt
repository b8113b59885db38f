-- The answers of the two calls, by what their parts answered.
use Prim.Native.Nat.{ℕ, ◌+◌, ◌-◌, ◌≤◌, ◌<◌}
use mathlib.Core.Path.{◌≡◌, refl, ap, sym, ◌∙◌}
use mathlib.Core.Bool.{Bool, true, false}
use Rattle.std.specs.Prelude.{Option, None, Some}
use mathlib.Core.List.{List, []}
use native.Mathlib.Omega.{arith}
use borrow.Author.Tests.{leb-true, le-leb}
use lib.Dec.{leb}
use lib.ListN.{length, drop, length-drop}
use lib.Seq.{length-take-le}
use denote.Ref.{Bor}
use Rattle.lists.proofs.Cases.{either_bool, no_both, never}
use Rattle.labels.specs.Label.{capitals, label_form?}
use Rattle.std.specs.Prelude.{Result, Ok, Err}
use Rattle.refusals.specs.Refusal.{number}
use Rattle.refusals.specs.declared.Refusal.{Refusal}
use Rattle.refusals.specs.declared.Refusal.TheVariants.{LineLabel, BookForm}
use Rattle.label_book.specs.declared.Piece.{Piece}
use Rattle.label_book.specs.declared.Piece.TheVariants.{InBook, InLog}
use Rattle.label_book.specs.Book.{Entry}
use Rattle.label_book.specs.Reading.{book_of, text_from, listing, look_up}
use Rattle.label_book.specs.Piece.{piece_at, label_at?, bytes_inside, piece_for, TellsPiece, SliceOf, Hands}
use Rattle.label_book.proofs.Meaning.{no_lines, other_piece, label_piece, places}

-- ── the twin ──
module _ (b log : List ℕ) (p n : ℕ) (l : List ℕ) where
  look : (o : Option (List Entry)) → book_of b ≡ o → look_up b l ≡ listing o l
  unfolding look_up
  look o e = ap (λ (k : Option (List Entry)). listing k l) e

  pub no_book_answer : (r : Result (Option (ℕ × ℕ)) Refusal) → r ≡ look_up b l → (e : Refusal) → r ≡ Err e → TellsPiece b log p n (Err e)
  no_book_answer r f e q = places b log p n (Err e) (go (book_of b) refl)
    where
      same : (d : Refusal) → ◌≡◌ {A = Result (Option (ℕ × ℕ)) Refusal} (Err e) (Err d) → e ≡ d
      same d k = cc

      go : (o : Option (List Entry)) → book_of b ≡ o → Err e ≡ piece_for b log p n
      go None x = ap Err (same BookForm (sym q ∙ f ∙ look None x)) ∙ sym (no_lines b log p n x)
      go (Some es) x = let z : ◌≡◌ {A = Result (Option (ℕ × ℕ)) Refusal} (Err e) (Ok (text_from 0 es l)) = sym q ∙ f ∙ look (Some es) x in never cc

module _ (b log : List ℕ) (p n : ℕ) (l : List ℕ) (i : l ≡ bytes_inside log p n) (form : Bool) (m : form ≡ label_form? (capitals l)) where
  empty_form : label_form? (capitals []) ≡ false
  unfolding label_form?
  empty_form = refl

  -- whether the bytes are a label is whether the piece is one
  form_is : form ≡ label_at? log p n
  unfolding label_at?
  form_is =
      either_bool (leb (p + n) (length log))
      (λ e. m ∙ ap (λ (k : List ℕ). label_form? (capitals k)) i ∙ simp e)
      (λ e. m ∙ ap (λ (k : List ℕ). label_form? (capitals k)) i ∙ simp (e, empty_form))

  pub label_inside : form ≡ true → p + n ≤ length log
  unfolding label_at?
  label_inside q =
      either_bool (leb (p + n) (length log))
      (λ e. leb-true (p + n) (length log) e)
      (λ e. let f : false ≡ true = simp e at (sym form_is ∙ q) in no_both (sym f))

  bytes_are : form ≡ true → l ≡ piece_at log p n
  bytes_are q = i ∙ simp (le-leb (p + n) (length log) (label_inside q))

  module _ (r : Result (Option (ℕ × ℕ)) Refusal) (f : r ≡ look_up b l) (found : Option (ℕ × ℕ)) (t : r ≡ Ok found) where
    -- the lines of a book, where something was looked up in them
    with_lines : {C : Type 0} → ((es : List Entry) → book_of b ≡ Some es → text_from 0 es l ≡ found → C) → C
    with_lines {C} g = go (book_of b) refl
      where
        same : (x y : Option (ℕ × ℕ)) → ◌≡◌ {A = Result (Option (ℕ × ℕ)) Refusal} (Ok x) (Ok y) → x ≡ y
        same x y k = cc

        go : (o : Option (List Entry)) → book_of b ≡ o → C
        go None e = let z : ◌≡◌ {A = Result (Option (ℕ × ℕ)) Refusal} (Ok found) (Err BookForm) = sym t ∙ f ∙ look b log p n l None e in never cc
        go (Some es) e = g es e (same (text_from 0 es l) found (sym (look b log p n l (Some es) e) ∙ sym f ∙ t))

    pub no_label_answer : form ≡ false → TellsPiece b log p n (Err LineLabel)
    no_label_answer z =
        places b log p n (Err LineLabel) (with_lines (λ es e q. sym (other_piece b log p n es e (sym form_is ∙ z))))

    pub text_answer_lem : form ≡ true → (start end : ℕ) → found ≡ Some (start, end) → TellsPiece b log p n (Ok (InBook start end))
    text_answer_lem z start end q =
        places b log p n (Ok (InBook start end))
        (with_lines
        (λ es e k.
        sym (label_piece b log p n es e (sym form_is ∙ z) (Some (start, end)) (ap (text_from 0 es) (sym (bytes_are z)) ∙ (k ∙ q)))))

    pub log_answer : form ≡ true → found ≡ None → TellsPiece b log p n (Ok (InLog p (p + n)))
    log_answer z q =
        places b log p n (Ok (InLog p (p + n)))
        (with_lines
        (λ es e k.
        sym (label_piece b log p n es e (sym form_is ∙ z) None (ap (text_from 0 es) (sym (bytes_are z)) ∙ (k ∙ q)))))

-- ── the part that is handed back ──
pub piece_read : (r : Result Piece Refusal) (q p : Piece) → r ≡ Ok q → q ≡ p → r ≡ Ok p
piece_read r q p e f = e ∙ ap Ok f

module _ (b log : List ℕ) (p n : ℕ) (r : Result Piece Refusal) (w : TellsPiece b log p n r) where
  pub inside_book : (x y : ℕ) → r ≡ Ok (InBook x y) → (x < y) × (y ≤ length b)
  inside_book x y e = rw e at w.inside

  pub inside_log : (x y : ℕ) → r ≡ Ok (InLog x y) → (x < y) × (y ≤ length log)
  inside_log x y e = rw e at w.inside

part_length : (s r : Bor (List ℕ)) (x y : ℕ) → SliceOf s x y r → y ≤ length s.now → length r.now ≡ y - x
part_length s r x y h k = ap length h.bytes ∙ length-take-le (y - x) (drop x s.now) (omega (arith, length-drop x s.now))

module _ (book log : Bor (List ℕ)) (p n : ℕ) (o : Result Piece Refusal) (w : TellsPiece book.now log.now p n o) (r : Bor (List ℕ)) where
  -- some bytes are handed back where the piece is not refused
  full : (x y : ℕ) → (s : Bor (List ℕ)) → SliceOf s x y r → x < y → y ≤ length s.now → (length r.now ≡ 0 → ⊥)
  full x y s h k l z = omega (arith, part_length s r x y h l)

  module _ (x y : ℕ) (e : o ≡ Ok (InBook x y)) (h : SliceOf book x y r) where
    pub hands_book : Hands book log p n r
    hands_book =
        let i = inside_book book.now log.now p n o w x y e in
        record {
          piece = o;
          told = w;
          stands = rw e h;
          empty = (λ z. absurd (full x y book h i.0 i.1 z), λ c. let k : Ok (InBook x y) ≡ Err c.1.0 = sym e ∙ c.1.1.0 in never cc);
        }

  module _ (x y : ℕ) (e : o ≡ Ok (InLog x y)) (h : SliceOf log x y r) where
    pub hands_log : Hands book log p n r
    hands_log =
        let i = inside_log book.now log.now p n o w x y e in
        record {
          piece = o;
          told = w;
          stands = rw e h;
          empty = (λ z. absurd (full x y log h i.0 i.1 z), λ c. let k : Ok (InLog x y) ≡ Err c.1.0 = sym e ∙ c.1.1.0 in never cc);
        }

  module _ (k : Refusal) (e : o ≡ Err k) (h : SliceOf log 0 0 r) where
    pub hands_none : Hands book log p n r
    hands_none =
        record { piece = o; told = w; stands = rw e h; empty = (λ z. (number k, (k, (e, refl))), λ c. part_length log r 0 0 h (omega arith)) }
