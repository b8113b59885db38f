-- The bytes of lines: a line that is read is the bytes of a right entry, and the bytes of a right entry are read as that entry. So
-- the lines that are read from some bytes are the ones that the bytes are written from.
use Prim.Native.Nat.{ℕ, zero, suc, ◌+◌, ◌-◌, ◌≤◌, ◌<◌}
use mathlib.Core.Path.{◌≡◌, refl, ap, ap₂, sym, ◌∙◌}
use mathlib.Core.Logic.{◌≢◌, ◌↔◌}
use mathlib.Core.Bool.{Bool, true, false, ◌&&◌}
use Rattle.std.specs.Prelude.{Option, None, Some}
use mathlib.Core.List.{List, [], ◌∷◌, ◌++◌, append_assoc}
use native.Mathlib.Omega.{arith}
use native.Mathlib.Numerals.{add-one}
use borrow.Author.Tests.{eq-eqb, ne_eqb, le-leb}
use lib.ListN.{length, take, drop, get_or, length-append, length-map, length-drop}
use lib.Seq.{length-take-le, split_at, take-append_seam, drop-append-add, get_or-append_seam, drop_at, drop-drop, get_or-drop}
use Rattle.lists.specs.Lists.{all?}
use Rattle.lists.proofs.Cases.{either_bool, no_both, never, and_left, and_right}
use Rattle.labels.specs.Label.{letter?, capital, capitals, label_length?, label_form?}
use Rattle.grammar.specs.Written.{IsLabel}
use Rattle.grammar.proofs.Written.{all_each, each_all, form_is_label}
use Rattle.label_book.specs.Book.{Entry, no_entry, entry_bytes, book_bytes, RightEntry, TextAt}
use Rattle.label_book.specs.Reading.{label_byte?, text_byte?, span, line_of, entry_at, with_entry, when_read, entries_from}
use Rattle.label_book.proofs.Lines.{LineIs, line_is, whole_line, rest_drop}
use Rattle.label_book.proofs.Entries.{entries_none, entries-more, entry_length}

-- ── the bytes of an entry ──
module _ (e : Entry) (rest : List ℕ) where
  -- with more behind them: the text is behind the label and the sign
  abbrev text_on : List ℕ
  text_on = e.text ++ (10 ∷ rest)

  front_of : entry_bytes e ++ rest ≡ e.label ++ (61 ∷ text_on)
  front_of = simp append_assoc

  behind_sign : drop (length e.label + 1) (entry_bytes e ++ rest) ≡ text_on
  behind_sign = ap (drop (length e.label + 1)) front_of ∙ drop-append-add e.label (61 ∷ text_on) 1

  label_back : take (length e.label) (entry_bytes e ++ rest) ≡ e.label
  label_back = ap (take (length e.label)) front_of ∙ take-append_seam e.label (61 ∷ text_on)

  text_back : take (length e.text) (drop (length e.label + 1) (entry_bytes e ++ rest)) ≡ e.text
  text_back = ap (take (length e.text)) behind_sign ∙ take-append_seam e.text (10 ∷ rest)

  -- what is read is the entry, and what is left is what stands behind it
  pub entry_back : entry_at (length e.label) (length e.text) (entry_bytes e ++ rest) ≡ e
  entry_back = λ i. record { label = label_back i; text = text_back i }

  pub entry_past : drop (length e.label + length e.text + 2) (entry_bytes e ++ rest) ≡ rest
  entry_past = drop_at (entry_bytes e) rest (length e.label + length e.text + 2) (entry_length e)

-- ── counting from the front ──
module _ (f : ℕ → Bool) where
  span-passes : (s : List ℕ) → all? f (take (span f s) s) ≡ true
  span-passes [] = refl
  span-passes (x ∷ s) = either_bool (f x) (λ e. simp e (span-passes s)) (λ e. simp e)

  span_seam : (a : List ℕ) (x : ℕ) (b : List ℕ) → all? f a ≡ true → f x ≡ false → span f (a ++ (x ∷ b)) ≡ length a
  span_seam [] x b p q = simp q
  span_seam (y ∷ a) x b p q = simp (and_left (f y) (all? f a) p) (ap suc (span_seam a x b (and_right (f y) (all? f a) p) q))

-- ── the bytes of a label and of a text ──
label_letters : (s : List ℕ) → all? label_byte? s ≡ all? letter? (capitals s)
unfolding label_byte?
label_letters [] = refl
label_letters (x ∷ s) = ap (λ (b : Bool). letter? (capital x) && b) (label_letters s)

no_label_byte : label_byte? 61 ≡ false
unfolding label_byte? letter? capital
no_label_byte = refl

no_text_byte : text_byte? 10 ≡ false
unfolding text_byte?
no_text_byte = refl

text_byte : (b : ℕ) → text_byte? b ≡ true → (b ≢ 10) × (b ≢ 61)
unfolding text_byte?
text_byte b e = (
  (λ h. let f : false ≡ true = simp (eq-eqb b 10 h) at e in no_both (sym f)),
  (λ h. let f : false ≡ true = simp (eq-eqb b 61 h, ne_eqb b 10 (omega arith)) at e in no_both (sym f)),
)

byte_text : (b : ℕ) → b ≢ 10 → b ≢ 61 → text_byte? b ≡ true
unfolding text_byte?
byte_text b h k = simp (ne_eqb b 10 h, ne_eqb b 61 k)

-- ── a line that is read ──
pub record LineWritten (s : List ℕ) (n m : ℕ) : Type 0 where
  pub bytes : s ≡ entry_bytes (entry_at n m s) ++ drop (n + m + 2) s
  pub right : RightEntry (entry_at n m s)
  pub label_length : length (entry_at n m s).label ≡ n
  pub text_length : length (entry_at n m s).text ≡ m

-- the bytes behind the label and the sign
abbrev behind : ℕ → List ℕ → List ℕ
behind n s = drop (n + 1) s

module _ (s : List ℕ) (n m : ℕ) (l : LineIs s n m) where
  behind-length : length (behind n s) ≡ length s - (n + 1)
  behind-length = length-drop (n + 1) s

  label_size_lem : length (take n s) ≡ n
  label_size_lem = length-take-le n s (omega (arith, l.within))

  text_size_lem : length (take m (behind n s)) ≡ m
  text_size_lem = length-take-le m (behind n s) (omega (arith, l.within, behind-length))

  label_split : s ≡ take n s ++ (61 ∷ behind n s)
  label_split =
      let h : n < length s = omega (arith, l.within) in
      split_at s n 0 h ∙ ap₂ (λ (x k : ℕ). take n s ++ (x ∷ drop k s)) l.sign (sym (add-one n))

  text_split : behind n s ≡ take m (behind n s) ++ (10 ∷ drop (n + m + 2) s)
  text_split =
      let x : get_or (behind n s) m 0 ≡ 10 = get_or-drop (n + 1) s m 0 ∙ l.line_end in
      let k : n + 1 + suc m ≡ n + m + 2 = omega arith in
      let r : drop (suc m) (behind n s) ≡ drop (n + m + 2) s = rw (← k) (drop-drop (suc m) (n + 1) s) in
      let h : m < length (behind n s) = omega (arith, l.within, behind-length) in
      split_at (behind n s) m 0 h ∙ ap₂ (λ (b : ℕ) (u : List ℕ). take m (behind n s) ++ (b ∷ u)) x r

  line_bytes : s ≡ entry_bytes (entry_at n m s) ++ drop (n + m + 2) s
  line_bytes =
      label_split
      ∙ ap (λ (r : List ℕ). take n s ++ (61 ∷ r)) text_split
      ∙ sym (front_of (entry_at n m s) (drop (n + m + 2) s))

  label_right : IsLabel (capitals (take n s))
  unfolding label_form?
  label_right =
      let c = capitals (take n s) in
      let e : length c ≡ n = length-map (take n s) capital ∙ label_size_lem in
      let p : all? label_byte? (take n s) ≡ true = rw l.label_span_lem (span-passes label_byte? s) in
      let q : label_form? c ≡ true =
      simp (le-leb 1 (length c) (omega (arith, e, l.label_some)), le-leb (length c) 24 (omega (arith, e, l.label_few)))
      (sym (label_letters (take n s)) ∙ p)
      in
      (form_is_label c).0 q

  text_right : all? text_byte? (take m (behind n s)) ≡ true
  text_right =
      let e : m ≡ span text_byte? (behind n s) = l.text_span_lem ∙ ap (λ (k : ℕ). span text_byte? (behind k s)) (sym l.label_span_lem) in
      rw e (span-passes text_byte? (behind n s))

  line_right : RightEntry (entry_at n m s)
  line_right = record {
    label = label_right;
    some = omega (arith, text_size_lem, l.text_some);
    few = omega (arith, text_size_lem, l.text_few);
    bytes = λ k h. text_byte (get_or (take m (behind n s)) k 0) (all_each text_byte? (take m (behind n s)) text_right k h);
  }

-- a line that is read is the bytes of a right entry
pub line_written : (s : List ℕ) (n m : ℕ) → line_of s ≡ Some (n, m) → LineWritten s n m
line_written s n m e =
    let l = line_is s n m e in
    record {
      bytes = line_bytes s n m l;
      right = line_right s n m l;
      label_length = label_size_lem s n m l;
      text_length = text_size_lem s n m l;
    }

-- ── a right entry is read ──
module _ (e : Entry) (rest : List ℕ) (r : RightEntry e) where
  label_passes : all? label_byte? e.label ≡ true
  unfolding label_form?
  label_passes =
      let c = capitals e.label in
      label_letters e.label ∙ and_right (label_length? (length c)) (all? letter? c) ((form_is_label c).1 r.label)

  text_passes : all? text_byte? e.text ≡ true
  text_passes = each_all text_byte? e.text (λ k h. byte_text (get_or e.text k 0) (r.bytes k h).0 (r.bytes k h).1)

  label_spans : span label_byte? (entry_bytes e ++ rest) ≡ length e.label
  label_spans = ap (span label_byte?) (front_of e rest) ∙ span_seam label_byte? e.label 61 (text_on e rest) label_passes no_label_byte

  text_spans : span text_byte? (drop (length e.label + 1) (entry_bytes e ++ rest)) ≡ length e.text
  text_spans = ap (span text_byte?) (behind_sign e rest) ∙ span_seam text_byte? e.text 10 rest text_passes no_text_byte

  sign_there : get_or (entry_bytes e ++ rest) (length e.label) 0 ≡ 61
  sign_there = ap (λ (s : List ℕ). get_or s (length e.label) 0) (front_of e rest) ∙ get_or-append_seam e.label 61 (text_on e rest) 0

  end_there : get_or (entry_bytes e ++ rest) (length e.label + 1 + length e.text) 0 ≡ 10
  end_there =
      sym (get_or-drop (length e.label + 1) (entry_bytes e ++ rest) (length e.text) 0)
      ∙ ap (λ (s : List ℕ). get_or s (length e.text) 0) (behind_sign e rest)
      ∙ get_or-append_seam e.text 10 rest 0

  -- the bytes of a right entry are read as its line
  pub written_line : line_of (entry_bytes e ++ rest) ≡ Some (length e.label, length e.text)
  written_line =
      let s = entry_bytes e ++ rest in
      let n = length e.label in
      let m = length e.text in
      let k : length (capitals e.label) ≡ n = length-map e.label capital in
      let f : span text_byte? (take (length s - (n + 1)) (drop (n + 1) s)) ≡ m = ap (span text_byte?) (rest_drop (n + 1) s) ∙ text_spans in
      let h1 : n ≢ 0 = omega (arith, k, r.label.some) in
      let h2 : n ≤ 24 = omega (arith, k, r.label.few) in
      let h4 : m ≢ 0 = omega (arith, r.some) in
      sym (whole_line s n (sym label_spans) h1 h2 sign_there m (sym f) h4 r.few end_there)

-- ── the lines of some bytes ──
abbrev EachRight : List Entry → Type 0
EachRight es = (i : ℕ) → i < length es → RightEntry (get_or es i no_entry)

one_right : (e : Entry) (es : List Entry) → RightEntry e → EachRight es → EachRight (e ∷ es)
one_right e es r h zero l = r
one_right e es r h (suc i) l = h i (omega arith)

-- the bytes b are written from these entries, and each is right
abbrev Written : List ℕ → List Entry → Type 0
Written b es = (b ≡ book_bytes es) × EachRight es

-- what is claimed of fewer bytes than b
abbrev FewerWritten : List ℕ → Type 0
FewerWritten b = (u : List ℕ) (es : List Entry) → length u < length b → entries_from 0 u ≡ Some es → Written u es

-- the first line, and those behind it
module _ (b : List ℕ) (es : List Entry) (s : 0 < length b) (fewer : FewerWritten b) where
  first_written : (n m : ℕ) → line_of b ≡ Some (n, m) → (o : Option (List Entry)) → entries_from 0 (drop (n + m + 2) b) ≡ o
      → with_entry (entry_at n m b) o ≡ Some es → Written b es
  first_written n m l None p q = never cc
  first_written n m l (Some fs) p q =
      let w = line_written b n m l in
      let e = entry_at n m b in
      let u = drop (n + m + 2) b in
      let g = fewer u fs (omega (arith, length-drop (n + m + 2) b)) p in
      let f : es ≡ e ∷ fs = cc in
      rw f (w.bytes ∙ ap (λ (v : List ℕ). entry_bytes e ++ v) g.0, one_right e fs w.right g.1)

  line_then : (o : Option (ℕ × ℕ)) → line_of b ≡ o
      → when_read o (λ n m. with_entry (entry_at n m b) (entries_from 0 (drop (n + m + 2) b))) None ≡ Some es → Written b es
  line_then None p q = never cc
  line_then (Some l) p q = first_written l.0 l.1 p (entries_from 0 (drop (l.0 + l.1 + 2) b)) refl q

some_written : (b : List ℕ) (es : List Entry) → FewerWritten b → entries_from 0 b ≡ Some es → Written b es
some_written [] es fewer e =
    let f : es ≡ [] = cc entries_none in
    rw f (refl, λ i h. absurd (omega arith))
some_written (x ∷ b) es fewer e =
    let s : 0 < length (x ∷ b) = omega arith in
    line_then (x ∷ b) es s fewer (line_of (x ∷ b)) refl (sym (entries-more (x ∷ b) s) ∙ e)

lines_written : (k : ℕ) (b : List ℕ) (es : List Entry) → length b ≤ k → entries_from 0 b ≡ Some es → Written b es
lines_written zero b es h e = some_written b es (λ u fs l f. absurd (omega arith)) e
lines_written (suc k) b es h e = some_written b es (λ u fs l f. lines_written k u fs (omega arith) f) e

-- and back
written_lines : (es : List Entry) → EachRight es → entries_from 0 (book_bytes es) ≡ Some es
written_lines [] h = entries_none
written_lines (e ∷ es) h =
    let b = book_bytes (e ∷ es) in
    let r : RightEntry e = h 0 (omega arith) in
    let ih = written_lines es (λ i l. h (suc i) (omega arith)) in
    let s : 0 < length b = simp length-append (omega arith) in
    entries-more b s ∙ rw (written_line e (book_bytes es) r, entry_back e (book_bytes es), entry_past e (book_bytes es), ih) refl

-- the lines read from some bytes are the right entries that the bytes are written from
pub entries_written : (b : List ℕ) (es : List Entry)
    → (entries_from 0 b ≡ Some es) ↔ ((b ≡ book_bytes es) × ((i : ℕ) → i < length es → RightEntry (get_or es i no_entry)))
entries_written b es = (lines_written (length b) b es (omega arith), λ w. rw w.0 (written_lines es w.1))

-- ── where a text stands ──
pub book_more : (xs ys : List Entry) → book_bytes (xs ++ ys) ≡ book_bytes xs ++ book_bytes ys
book_more [] ys = refl
book_more (e ∷ xs) ys =
    ap (λ (b : List ℕ). entry_bytes e ++ b) (book_more xs ys) ∙ sym (append_assoc (entry_bytes e) (book_bytes xs) (book_bytes ys))

module _ (es : List Entry) (l : List ℕ) (start end : ℕ) (t : TextAt es l start end) where
  book_split : book_bytes es ≡ book_bytes t.before ++ (entry_bytes t.entry ++ book_bytes t.after)
  book_split = ap book_bytes t.lines ∙ book_more t.before (t.entry ∷ t.after)

  -- the text of a label stands in the book from `start` to `end`
  pub text_there : take (end - start) (drop start (book_bytes es)) ≡ t.entry.text
  text_there =
      let e = t.entry in
      let u = book_bytes t.after in
      let size : end - start ≡ length e.text = omega (arith, t.ends) in
      let place : start ≡ length (book_bytes t.before) + (length e.label + 1) = omega (arith, t.starts) in
      let part = drop-append-add (book_bytes t.before) (entry_bytes e ++ u) (length e.label + 1) in
      rw (size, place, book_split, part) (text_back e u)

  -- it has bytes, and it lies in the book
  pub text_some : 1 ≤ length t.entry.text → start < end
  text_some h = omega (arith, t.ends)

  pub text_within : end ≤ length (book_bytes es)
  text_within =
      let p = book_bytes t.before in
      let q = entry_bytes t.entry in
      let r = book_bytes t.after in
      let more = ap length book_split ∙ length-append p (q ++ r) in
      omega (arith, more, length-append q r, t.starts, t.ends, entry_length t.entry)
