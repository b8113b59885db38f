-- The text of a label in lines: it is found exactly where a line has the label, and missing exactly if no line has it.
use Prim.Native.Nat.{ℕ, zero, suc, ◌+◌, ◌<◌}
use mathlib.Core.Path.{◌≡◌, refl, ap, ap₂, sym, subst₂, ◌∙◌}
use mathlib.Core.Logic.{◌↔◌, ◌≢◌}
use Rattle.std.specs.Prelude.{None, Some}
use mathlib.Core.List.{List, [], ◌∷◌, ◌++◌}
use native.Mathlib.Omega.{arith}
use lib.ListN.{length, length-append, get_or-append}
use lib.Seq.{get_or-append_seam}
use Rattle.lists.specs.Lists.{same?}
use Rattle.lists.proofs.Cases.{either_bool, no_both, never}
use Rattle.lists.proofs.Tells.{tell_no}
use Rattle.lists.proofs.Lists.{same_eq, same_refl, same_not}
use Rattle.labels.specs.Label.{capitals}
use Rattle.label_book.specs.Book.{Entry, no_entry, entry_bytes, book_bytes, InByteOrder, capitals_at, LabelsRise, TextAt, NotListed}
use Rattle.label_book.specs.Reading.{text_from}
use Rattle.label_book.proofs.Order.{never_before_itself}

module _ (l : List ℕ) where
  -- ── the first line ──
  module _ (at : ℕ) (e : Entry) (es : List Entry) where
    first_line : capitals e.label ≡ capitals l
        → text_from at (e ∷ es) l ≡ Some (at + length e.label + 1, at + length e.label + 1 + length e.text)
    first_line q = rw q (simp (same_refl (capitals l)))

    later_line : capitals e.label ≢ capitals l → text_from at (e ∷ es) l ≡ text_from (at + length (entry_bytes e)) es l
    later_line n = simp (same_not (capitals l) (capitals e.label) (tell_no (λ q. n (sym q))))

  -- whether a line has the label
  by_first : {C : Type 0} (e : Entry) → (capitals e.label ≡ capitals l → C) → (capitals e.label ≢ capitals l → C) → C
  by_first e f g =
      either_bool (same? (capitals l) (capitals e.label))
      (λ q. f (sym (same_eq (capitals l) (capitals e.label) q)))
      (λ q. g (λ p. no_both (sym (same_refl (capitals l)) ∙ (ap (same? (capitals l)) (sym p) ∙ q))))

  -- ── no line has the label ──
  unlisted_more : (e : Entry) (es : List Entry) → capitals e.label ≢ capitals l → NotListed es l → NotListed (e ∷ es) l
  unlisted_more e es n m zero h = n
  unlisted_more e es n m (suc i) h = m i (omega arith)

  missing_unlisted : (at : ℕ) (es : List Entry) → text_from at es l ≡ None → NotListed es l
  missing_unlisted at [] q = λ i h. absurd (omega arith)
  missing_unlisted at (e ∷ es) q =
      by_first e
      (λ p. let z = sym (first_line at e es p) ∙ q in never cc)
      (λ n. unlisted_more e es n (missing_unlisted (at + length (entry_bytes e)) es (sym (later_line at e es n) ∙ q)))

  unlisted_missing : (at : ℕ) (es : List Entry) → NotListed es l → text_from at es l ≡ None
  unlisted_missing at [] n = refl
  unlisted_missing at (e ∷ es) n =
      later_line at e es (n 0 (omega arith)) ∙ unlisted_missing (at + length (entry_bytes e)) es (λ i h. n (suc i) (omega arith))

  -- ── a line has the label ──
  -- where the lines begin at the place `at`
  record TextPast (at : ℕ) (es : List Entry) (start end : ℕ) : Type 0 where
    first : ℕ
    past : ℕ
    text : TextAt es l first past
    starts : start ≡ at + first
    ends : end ≡ at + past

  text_past : (start end at : ℕ) (es : List Entry) → text_from at es l ≡ Some (start, end) → TextPast at es start end
  text_past start end at [] q = never cc
  text_past start end at (e ∷ es) q =
      by_first e
      (λ p.
      let z = sym (first_line at e es p) ∙ q in
      let w : ◌≡◌ {A = ℕ × ℕ} (at + length e.label + 1, at + length e.label + 1 + length e.text) (start, end) = cc in
      let a : at + length e.label + 1 ≡ start = ap (λ (t : ℕ × ℕ). t.0) w in
      let b : at + length e.label + 1 + length e.text ≡ end = ap (λ (t : ℕ × ℕ). t.1) w in
      record {
        first = length e.label + 1;
        past = length e.label + 1 + length e.text;
        text = record { before = []; entry = e; after = es; lines = refl; label = p; starts = omega arith; ends = omega arith };
        starts = omega arith;
        ends = omega arith;
      })
      (λ n.
      let w = text_past start end (at + length (entry_bytes e)) es (sym (later_line at e es n) ∙ q) in
      record {
        first = length (entry_bytes e) + w.first;
        past = length (entry_bytes e) + w.past;
        text = record {
          before = e ∷ w.text.before;
          entry = w.text.entry;
          after = w.text.after;
          lines = ap (λ (k : List Entry). e ∷ k) w.text.lines;
          label = w.text.label;
          starts = let d = length-append (entry_bytes e) (book_bytes w.text.before) in omega (arith, w.text.starts);
          ends = omega (arith, w.text.ends);
        };
        starts = omega (arith, w.starts);
        ends = omega (arith, w.ends);
      })

  text_found : (at : ℕ) (before : List Entry) (entry : Entry) (after : List Entry) → NotListed before l
      → capitals entry.label ≡ capitals l
      → text_from at (before ++ (entry ∷ after)) l
      ≡ Some
      (at + length (book_bytes before) + length entry.label + 1, at + length (book_bytes before) + length entry.label + 1 + length entry.text)
  text_found at [] entry after n p =
      let z : at + 0 ≡ at = omega arith in
      rw z (first_line at entry after p)
  text_found at (e ∷ before) entry after n p =
      let d : at + length (entry_bytes e ++ book_bytes before) ≡ at + length (entry_bytes e) + length (book_bytes before) =
      omega (arith, length-append (entry_bytes e) (book_bytes before))
      in
      rw d (later_line at e (before ++ (entry ∷ after)) (n 0 (omega arith))
      ∙ text_found (at + length (entry_bytes e)) before entry after (λ i h. n (suc i) (omega arith)) p)

-- the lines before one have other labels
others_before : (before : List Entry) (entry : Entry) (after : List Entry) → LabelsRise (before ++ (entry ∷ after))
    → (i : ℕ) → i < length before → capitals_at before i ≢ capitals entry.label
others_before before entry after r i h p =
    let k = length-append before (entry ∷ after) in
    let b = r i (length before) h (omega arith) in
    let c : InByteOrder (capitals_at before i) (capitals entry.label) =
    rw (get_or-append before (entry ∷ after) no_entry i h, get_or-append_seam before entry after no_entry) at b
    in
    never_before_itself (capitals entry.label) (rw p at c)

-- ── what the answer says ──
pub text_missing : (es : List Entry) (l : List ℕ) → (text_from 0 es l ≡ None) ↔ NotListed es l
text_missing es l = (missing_unlisted l 0 es, unlisted_missing l 0 es)

pub text_listed : (es : List Entry) (l : List ℕ) → LabelsRise es
    → (start end : ℕ) → (text_from 0 es l ≡ Some (start, end)) ↔ TextAt es l start end
text_listed es l r start end = (to, from)
  where
    to : text_from 0 es l ≡ Some (start, end) → TextAt es l start end
    to q =
        let w = text_past l start end 0 es q in
        subst₂ (TextAt es l) (omega (arith, w.starts)) (omega (arith, w.ends)) w.text

    from : TextAt es l start end → text_from 0 es l ≡ Some (start, end)
    from w =
        let n : NotListed w.before l = λ i h p. others_before w.before w.entry w.after (rw w.lines at r) i h (p ∙ sym w.label) in
        let f = text_found l 0 w.before w.entry w.after n w.label in
        rw w.lines (f ∙ ap₂ (λ (i j : ℕ). Some (i, j)) (omega (arith, w.starts)) (omega (arith, w.starts, w.ends)))
