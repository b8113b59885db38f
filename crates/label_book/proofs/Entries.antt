-- Laws of the lines of a book: the next line and what follows it. Nothing outside this file looks at the count of bytes to be skipped.
use Prim.Native.Nat.{ℕ, zero, suc, ◌+◌, ◌<◌}
use mathlib.Core.Path.{◌≡◌, refl, ap}
use Rattle.std.specs.Prelude.{Option, None, Some}
use mathlib.Core.List.{List, [], ◌∷◌}
use native.Mathlib.Omega.{arith}
use lib.ListN.{length, drop, length-append}
use Rattle.label_book.specs.Book.{Entry, entry_bytes}
use Rattle.label_book.specs.Reading.{line_of, entry_at, with_entry, when_read, entries_from}

pub entries-skip : (k : ℕ) (b : List ℕ) → entries_from k b ≡ entries_from 0 (drop k b)
unfolding entries_from
entries-skip zero b = refl
entries-skip (suc k) [] = refl
entries-skip (suc k) (x ∷ b) = entries-skip k b

pub entries_none : entries_from 0 [] ≡ Some []
unfolding entries_from
entries_none = refl

module _ (x : ℕ) (b : List ℕ) where
  after_line_lem : (o : Option (ℕ × ℕ)) →
      when_read o (λ n m. with_entry (entry_at n m (x ∷ b)) (entries_from (n + m + 1) b)) None
      ≡ when_read o (λ n m. with_entry (entry_at n m (x ∷ b)) (entries_from 0 (drop (n + m + 2) (x ∷ b)))) None
  after_line_lem (Some l) =
      let h : l.0 + l.1 + 2 ≡ suc (l.0 + l.1 + 1) = omega arith in
      rw h (ap (with_entry (entry_at l.0 l.1 (x ∷ b))) (entries-skip (l.0 + l.1 + 1) b))
  after_line_lem None = refl

pub entries-more : (b : List ℕ) → 0 < length b
    → entries_from 0 b ≡ when_read (line_of b) (λ n m. with_entry (entry_at n m b) (entries_from 0 (drop (n + m + 2) b))) None
unfolding entries_from
entries-more [] h = absurd (omega arith)
entries-more (x ∷ b) h = after_line_lem x b (line_of (x ∷ b))

-- how many bytes a line has
pub entry_length : (e : Entry) → length (entry_bytes e) ≡ length e.label + length e.text + 2
entry_length e = simp length-append (omega arith)
