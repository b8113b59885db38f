-- Reading on in a book: what is left of it decides, with the label before and what was found so far.
use Prim.Native.Nat.{ℕ, ◌+◌, ◌-◌, ◌≤◌, ◌<◌}
use mathlib.Core.Path.{◌≡◌, refl, ap, sym, ◌∙◌}
use mathlib.Core.Bool.{Bool, true, false, not, cond}
use Rattle.std.specs.Prelude.{Option, None, Some}
use mathlib.Core.List.{List, [], ◌∷◌}
use native.Mathlib.Omega.{arith}
use lib.ListN.{length, take, drop, drop_of_length-le, length-drop}
use lib.Seq.{drop-drop, length-take-le}
use Rattle.lists.specs.Lists.{same?}
use Rattle.lists.proofs.Cases.{either_bool}
use Rattle.labels.specs.Label.{capitals}
use Rattle.lines.proofs.Scans.{said_no, said_yes}
use Rattle.std.specs.Prelude.{Result, Ok, Err}
use Rattle.std.specs.Bool.{then_some}
use Rattle.std.specs.Option.{option_or}
use Rattle.refusals.specs.declared.Refusal.{Refusal}
use Rattle.refusals.specs.declared.Refusal.TheVariants.{BookForm}
use Rattle.label_book.specs.Book.{Entry, entry_bytes}
use Rattle.label_book.specs.Reading.{line_of, entry_at, with_entry, when_read, entries_from, before?, rising_from?, put_in_order, book_of, text_from, listing, look_up}
use Rattle.label_book.proofs.Lines.{rest_drop, line_is}
use Rattle.label_book.proofs.Entries.{entries-more, entries_none, entry_length}

-- the lines that are left begin at the place `at`; `last` is the label before them, and `found` what the lines before have
abbrev pub follow : List ℕ → Option (ℕ × ℕ) → ℕ → List ℕ → Option (List Entry) → Result (Option (ℕ × ℕ)) Refusal
follow last found at l None = Err BookForm
follow last found at l (Some es) = cond (rising_from? last es) (Ok (option_or found (text_from at es l))) (Err BookForm)

pub follow_starts : (b l : List ℕ) → follow [] None 0 l (entries_from 0 b) ≡ look_up b l
unfolding look_up book_of
follow_starts b l = go (entries_from 0 b)
  where
    go : (o : Option (List Entry)) → follow [] None 0 l o ≡ listing (put_in_order o) l
    go None = refl
    go (Some es) = either_bool (rising_from? [] es) (λ e. simp e) (λ e. simp e)

first_none : (f : Option (ℕ × ℕ)) → option_or f None ≡ f
first_none (Some t) = refl
first_none None = refl

-- a line's own text comes behind what was found, and before what the other lines have
first_line : (f : Option (ℕ × ℕ)) (same : Bool) (t : ℕ × ℕ) (later : Option (ℕ × ℕ))
    → option_or f (cond same (Some t) later) ≡ option_or (option_or f (then_some same t)) later
first_line (Some a) same t later = refl
first_line None true t later = refl
first_line None false t later = refl

-- a line that is read lies in the book
module _ (b : List ℕ) (at : ℕ) (o : Option (ℕ × ℕ)) (e : o ≡ line_of (take (length b - at) (drop at b))) where
  read_here : o ≡ line_of (drop at b)
  read_here = e ∙ ap line_of (rest_drop at b)

  pub fits_here : at < length b → (n m : ℕ) → o ≡ Some (n, m) → at + n + m + 2 ≤ length b
  fits_here h n m q =
      let w = line_is (drop at b) n m (sym read_here ∙ q) in
      omega (arith, w.within, length-drop at b)

module _ (b l last : List ℕ) (found : Option (ℕ × ℕ)) (at : ℕ) (v : follow last found at l (entries_from 0 (drop at b)) ≡ look_up b l) where
  pub follow_ends : length b ≤ at → Ok found ≡ look_up b l
  follow_ends h =
      let e : entries_from 0 (drop at b) ≡ Some [] = ap (entries_from 0) (drop_of_length-le b h) ∙ entries_none in
      let f : follow last found at l (entries_from 0 (drop at b)) ≡ Ok (option_or found None) = ap (follow last found at l) e in
      ap Ok (sym (first_none found)) ∙ sym f ∙ v

  module _ (h : at < length b) (o : Option (ℕ × ℕ)) (e : o ≡ line_of (take (length b - at) (drop at b))) where
    entries_here : entries_from 0 (drop at b) ≡ when_read o (λ n m. with_entry (entry_at n m (drop at b)) (entries_from 0 (drop (n + m + 2) (drop at b)))) None
    entries_here = entries-more (drop at b) (omega (arith, length-drop at b)) ∙ (rw (read_here b at o e) refl)

    pub follow_bad : o ≡ None → Err BookForm ≡ look_up b l
    follow_bad q =
        let f : entries_from 0 (drop at b) ≡ None = entries_here ∙ (rw q refl) in
        sym (ap (follow last found at l) f) ∙ v

    module _ (n m : ℕ) (q : o ≡ Some (n, m)) where
      abbrev here : Entry
      here = entry_at n m (drop at b)

      abbrev after : Option (List Entry)
      after = entries_from 0 (drop (at + n + 1 + m + 1) b)

      label_is : take (at + n - at) (drop at b) ≡ here.label
      label_is = ap (λ (k : ℕ). take k (drop at b)) (let z : at + n - at ≡ n = omega arith in z)

      rest_is : drop (n + m + 2) (drop at b) ≡ drop (at + n + 1 + m + 1) b
      rest_is = drop-drop (n + m + 2) at b ∙ ap (λ (k : ℕ). drop k b) (let z : at + (n + m + 2) ≡ at + n + 1 + m + 1 = omega arith in z)

      follow_line : follow last found at l (with_entry here after) ≡ look_up b l
      follow_line =
          let f : entries_from 0 (drop at b) ≡ with_entry here after = entries_here ∙ (rw q (ap (λ (k : List ℕ). with_entry here (entries_from 0 k)) rest_is)) in
          ap (follow last found at l) (sym f) ∙ v

      pub out_of_order : (r : Bool) → r ≡ before? (capitals last) (capitals (take (at + n - at) (drop at b))) → not r ≡ true → Err BookForm ≡ look_up b l
      out_of_order r p z =
          let f : before? (capitals last) (capitals here.label) ≡ false = ap (λ (k : List ℕ). before? (capitals last) (capitals k)) (sym label_is) ∙ said_no r _ p z in
          sym (go f after) ∙ follow_line
        where
          go : before? (capitals last) (capitals here.label) ≡ false → (x : Option (List Entry)) → follow last found at l (with_entry here x) ≡ Err BookForm
          go f None = refl
          go f (Some es) = simp f

      label_size_lem : length here.label ≡ n
      label_size_lem =
          let w = line_is (drop at b) n m (sym (read_here b at o e) ∙ q) in
          length-take-le n (drop at b) (omega (arith, w.within))

      text_size_lem : length here.text ≡ m
      text_size_lem =
          let w = line_is (drop at b) n m (sym (read_here b at o e) ∙ q) in
          length-take-le m (drop (n + 1) (drop at b)) (omega (arith, w.within, length-drop (n + 1) (drop at b)))

      abbrev text_here : ℕ × ℕ
      text_here = (at + n + 1, at + n + 1 + m)

      -- the line's part of the search, with its numbers
      text_here_lem : (es : List Entry) → text_from at (here ∷ es) l ≡ cond (same? (capitals l) (capitals here.label)) (Some text_here) (text_from (at + n + 1 + m + 1) es l)
      text_here_lem es =
          let x : at + length (entry_bytes here) ≡ at + n + 1 + m + 1 = omega (arith, entry_length here, label_size_lem, text_size_lem) in
          rw (label_size_lem, text_size_lem, x) refl

      pub follow_on : (r : Bool) → r ≡ before? (capitals last) (capitals (take (at + n - at) (drop at b))) → not r ≡ false
          → (same : Bool) → same ≡ same? (capitals l) (capitals (take (at + n - at) (drop at b)))
          → (g : Option (ℕ × ℕ)) → g ≡ option_or found (then_some same text_here)
          → follow (take (at + n - at) (drop at b)) g (at + n + 1 + m + 1) l after ≡ look_up b l
      follow_on r p z same s g w =
          let f : before? (capitals last) (capitals here.label) ≡ true = ap (λ (k : List ℕ). before? (capitals last) (capitals k)) (sym label_is) ∙ said_yes r _ p z in
          let d : same ≡ same? (capitals l) (capitals here.label) = s ∙ ap (λ (k : List ℕ). same? (capitals l) (capitals k)) label_is in
          let i : g ≡ option_or found (then_some (same? (capitals l) (capitals here.label)) text_here) = w ∙ ap (λ (k : Bool). option_or found (then_some k text_here)) d in
          rw (label_is, i) (sym (go f after) ∙ follow_line)
        where
          go : before? (capitals last) (capitals here.label) ≡ true → (x : Option (List Entry))
              → follow last found at l (with_entry here x)
              ≡ follow here.label (option_or found (then_some (same? (capitals l) (capitals here.label)) text_here)) (at + n + 1 + m + 1) l x
          go f None = refl
          go f (Some es) =
              simp f
              (ap (λ (k : Option (ℕ × ℕ)). cond (rising_from? here.label es) (Ok k) (Err BookForm))
              (ap (option_or found) (text_here_lem es) ∙ first_line found (same? (capitals l) (capitals here.label)) text_here (text_from (at + n + 1 + m + 1) es l)))
