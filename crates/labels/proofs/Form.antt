-- The form of a label: what each test of it says, and that bytes of this form are what a run has.
use Prim.Native.Nat.{ℕ, zero, suc, ◌<◌, ◌≤◌}
use mathlib.Core.Path.{◌≡◌, refl, ap₂}
use mathlib.Core.Bool.{Bool, true, false, ◌&&◌}
use mathlib.Core.List.{List, [], ◌∷◌}
use native.Mathlib.Omega.{arith}
use lib.Dec.{leb}
use lib.ListN.{length, length-map}
use borrow.Author.Tests.{le-leb, lt-leb}
use Rattle.std.specs.Bool.{MatchBool}
use Rattle.std.specs.List.{AllWithin, HoldsAt}
use Rattle.lists.specs.Lists.{all?}
use Rattle.lists.proofs.Cases.{and_left, and_right}
use Rattle.labels.specs.Label.{letter?, capital, capitals, max_label_bytes, label_length?, label_form?}

-- ── the length ──
module _ (s : List ℕ) where
  pub form_empty : length s < 1 → false ≡ label_form? (capitals s)
  unfolding label_form?
  form_empty h = simp (length-map s capital, lt-leb 1 (length s) h)

  pub form_long : max_label_bytes < length s → false ≡ label_form? (capitals s)
  unfolding label_form?
  form_long h = simp (length-map s capital, le-leb 1 (length s) (omega arith), lt-leb (length s) max_label_bytes h)

  pub form_bytes : 1 ≤ length s → length s ≤ max_label_bytes → all? letter? (capitals s) ≡ label_form? (capitals s)
  unfolding label_form?
  form_bytes low high = simp (length-map s capital, le-leb 1 (length s) low, le-leb (length s) max_label_bytes high)

-- ── the bytes ──
abbrev pub Lettered : ℕ → Type 0
Lettered b = letter? (capital b) ≡ true

abbrev pub Unlettered : ℕ → Type 0
Unlettered b = letter? (capital b) ≡ false

-- one byte after the other decides
pub letters_all : (s : List ℕ) (r : Bool) → MatchBool r (AllWithin Lettered s 0 (length s)) ((k : ℕ) × (k < length s) × HoldsAt Unlettered s k)
    → r ≡ all? letter? (capitals s)
letters_all [] true m = refl
letters_all [] false (k, l, w) = absurd (omega arith)
letters_all (b ∷ s) true m =
    let e : letter? (capital b) ≡ true = m 0 0 (omega arith) (omega arith) in
    simp e (letters_all s true (λ k d l g. m (suc k) d (omega arith) (omega arith)))
letters_all (b ∷ s) false (zero, l, w) = let e : letter? (capital b) ≡ false = w 0 in simp e
letters_all (b ∷ s) false (suc k, l, w) = go (letter? (capital b)) (letters_all s false (k, omega arith, w))
  where
    go : (t : Bool) → false ≡ all? letter? (capitals s) → false ≡ (t && all? letter? (capitals s))
    go true e = e
    go false e = refl

-- ── what a run has ──
-- the bytes of a label, or no bytes at all where it has none
unfoldable pub label? : List ℕ → Bool
unfolding letter?
label? l = leb (length l) max_label_bytes && all? letter? l

pub form_label : (s : List ℕ) → label_form? s ≡ true → label? s ≡ true
unfolding label_form? label?
form_label s e =
    let size = and_left (label_length? (length s)) (all? letter? s) e in
    ap₂ ◌&&◌ (and_right (leb 1 (length s)) (leb (length s) max_label_bytes) size) (and_right (label_length? (length s)) (all? letter? s) e)

pub form_some : (b : ℕ) (s : List ℕ) → label? (b ∷ s) ≡ true → label_form? (b ∷ s) ≡ true
unfolding label_form? label?
form_some b s e =
    let n : ℕ = length (b ∷ s) in
    ap₂ ◌&&◌ (ap₂ ◌&&◌ (le-leb 1 n (omega arith)) (and_left (leb n max_label_bytes) (all? letter? (b ∷ s)) e)) (and_right (leb n max_label_bytes) (all? letter? (b ∷ s)) e)
