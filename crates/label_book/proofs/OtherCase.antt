-- In another case the answer is the same: of a log, and of a book's labels.
use Prim.Native.Nat.{ℕ, suc, ◌+◌}
use mathlib.Core.Path.{◌≡◌, refl, ap, ap₂, sym, ◌∙◌}
use mathlib.Core.Bool.{Bool, ◌&&◌, cond}
use Rattle.std.specs.Prelude.{Option, None, Some}
use mathlib.Core.List.{List, [], ◌∷◌}
use native.Mathlib.Omega.{arith}
use lib.Dec.{leb}
use lib.ListN.{length, take, drop, length-map}
use Rattle.lists.specs.Lists.{same?}
use Rattle.labels.specs.Label.{capital, capitals, label_form?}
use Rattle.labels.proofs.Capitals.{capitals-take, capitals-drop}
use Rattle.std.specs.Prelude.{Ok, Err}
use Rattle.refusals.specs.declared.Refusal.TheVariants.{LineLabel}
use Rattle.label_book.specs.Book.{Entry, entry_bytes, SameButCase}
use Rattle.label_book.specs.Reading.{book_of, text_from}
use Rattle.label_book.specs.Piece.{piece_at, label_at?, piece_of, piece_in, piece_for}
use Rattle.label_book.proofs.Entries.{entry_length}

same_length : (s t : List ℕ) → capitals s ≡ capitals t → length s ≡ length t
same_length s t e = sym (length-map s capital) ∙ ap length e ∙ length-map t capital

-- ── another log ──
text_by_capitals : (at : ℕ) (es : List Entry) (l m : List ℕ) → capitals l ≡ capitals m → text_from at es l ≡ text_from at es m
text_by_capitals at [] l m e = refl
text_by_capitals at (x ∷ es) l m e =
    ap₂ (λ (k : List ℕ) (r : Option (ℕ × ℕ)). cond (same? k (capitals x.label)) (Some (at + length x.label + 1, at + length x.label + 1 + length x.text)) r) e
    (text_by_capitals (at + length (entry_bytes x)) es l m e)

module _ (log other : List ℕ) (e : capitals log ≡ capitals other) (p n : ℕ) where
  piece_capitals : capitals (piece_at log p n) ≡ capitals (piece_at other p n)
  piece_capitals =
      sym (capitals-take n (drop p log)) ∙ ap (take n) (sym (capitals-drop p log) ∙ ap (drop p) e ∙ capitals-drop p other) ∙ capitals-take n (drop p other)

  same_label_at : label_at? log p n ≡ label_at? other p n
  unfolding label_at?
  same_label_at =
      ap₂ (λ (k : ℕ) (s : List ℕ). leb (p + n) k && label_form? s) (same_length log other e) piece_capitals

  pub other_log : (book : List ℕ) → piece_for book log p n ≡ piece_for book other p n
  unfolding piece_for
  other_log book = go (book_of book)
    where
      go : (o : Option (List Entry)) → piece_in o log p n ≡ piece_in o other p n
      go None = refl
      go (Some es) =
          ap₂ (λ (b : Bool) (r : Option (ℕ × ℕ)). cond b (Ok (piece_of r p n)) (Err LineLabel)) same_label_at
          (text_by_capitals 0 es (piece_at log p n) (piece_at other p n) piece_capitals)

-- ── another book ──
text_by_entries : (at : ℕ) (es fs : List Entry) (l : List ℕ) → SameButCase es fs → text_from at es l ≡ text_from at fs l
text_by_entries at [] [] l c = refl
text_by_entries at [] (y ∷ fs) l c = absurd (omega (arith, c.0))
text_by_entries at (x ∷ es) [] l c = absurd (omega (arith, c.0))
text_by_entries at (x ∷ es) (y ∷ fs) l c =
    let h = c.1 0 (omega arith) in
    let n : length x.label ≡ length y.label = same_length x.label y.label h.0 in
    let m : length x.text ≡ length y.text = ap length h.1 in
    let k : at + length (entry_bytes x) ≡ at + length (entry_bytes y) = omega (arith, entry_length x, entry_length y, n, m) in
    let r : text_from (at + length (entry_bytes x)) es l ≡ text_from (at + length (entry_bytes y)) fs l =
    ap (λ (i : ℕ). text_from i es l) k ∙ text_by_entries (at + length (entry_bytes y)) es fs l (omega (arith, c.0), λ i j. c.1 (suc i) (omega arith))
    in
    rw (h.0, n, m, r) refl

pub other_book : (book other log : List ℕ) (es fs : List Entry) → book_of book ≡ Some es → book_of other ≡ Some fs → SameButCase es fs
    → (p n : ℕ) → piece_for book log p n ≡ piece_for other log p n
unfolding piece_for
other_book book other log es fs b d c p n =
    ap (λ (o : Option (List Entry)). piece_in o log p n) b
    ∙ (ap (λ (r : Option (ℕ × ℕ)). cond (label_at? log p n) (Ok (piece_of r p n)) (Err LineLabel)) (text_by_entries 0 es fs (piece_at log p n) c)
    ∙ ap (λ (o : Option (List Entry)). piece_in o log p n) (sym d))
