-- Byte order: the test decides it, it goes through a third byte string, and none is before itself. Hence a book's labels rise exactly
-- if each is behind the one before it.
use Prim.Native.Nat.{ℕ, zero, suc, ◌<◌, ◌≤◌}
use mathlib.Core.Path.{◌≡◌, refl, ap, ap₂, sym, ◌∙◌}
use mathlib.Core.Logic.{◌↔◌}
use mathlib.Core.Bool.{true, false, ◌&&◌}
use mathlib.Core.List.{List, [], ◌∷◌, ◌++◌}
use native.Mathlib.Omega.{arith}
use borrow.Author.Tests.{eq-eqb, ne_eqb, lt-ltb, le-ltb}
use lib.ListN.{length}
use Rattle.lists.specs.Tells.{Tells}
use Rattle.lists.proofs.Cases.{either_eq, either_lt, no_both, and_left, and_right}
use Rattle.labels.specs.Label.{capitals}
use Rattle.label_book.specs.Book.{Entry, InByteOrder, shorter, smaller, capitals_at, LabelsRise}
use Rattle.label_book.specs.Reading.{before?, rising_from?}

-- ── what the test says of a first byte ──
module _ (x y : ℕ) (s t : List ℕ) where
  smaller_first : x < y → before? (x ∷ s) (y ∷ t) ≡ true
  smaller_first h = simp (lt-ltb x y h)

  same_first : x ≡ y → before? (x ∷ s) (y ∷ t) ≡ before? s t
  same_first e = simp (le-ltb x y (omega arith), eq-eqb x y e)

  larger_first : y < x → before? (x ∷ s) (y ∷ t) ≡ false
  larger_first h = simp (le-ltb x y (omega arith), ne_eqb x y (omega arith))

  -- the cases of two byte strings of which the first is before the second
  first_bytes : {C : Type 0} → before? (x ∷ s) (y ∷ t) ≡ true → (x < y → C) → (x ≡ y → before? s t ≡ true → C) → C
  first_bytes q f g =
      either_lt x y f
      (λ h. either_eq x y (λ e. g e (sym (same_first e) ∙ q)) (λ n. no_both (sym q ∙ larger_first (omega arith))))

-- ── the test decides ──
one_byte_more : (x y : ℕ) (s t : List ℕ) → x ≡ y → InByteOrder s t → InByteOrder (x ∷ s) (y ∷ t)
one_byte_more x y s t e (shorter b more p) = shorter b more (ap₂ ◌∷◌ (sym e) p)
one_byte_more x y s t e (smaller front b c u v p q h) = smaller (x ∷ front) b c u v (ap (λ (l : List ℕ). x ∷ l) p) (ap₂ ◌∷◌ (sym e) q) h

passes_before : (s t : List ℕ) → before? s t ≡ true → InByteOrder s t
passes_before [] [] q = no_both (sym q)
passes_before [] (y ∷ t) q = shorter y t refl
passes_before (x ∷ s) [] q = no_both (sym q)
passes_before (x ∷ s) (y ∷ t) q =
    first_bytes x y s t q
    (λ h. smaller [] x y s t refl refl h)
    (λ e p. one_byte_more x y s t e (passes_before s t p))

shorter-passes : (s : List ℕ) (b : ℕ) (more : List ℕ) → before? s (s ++ (b ∷ more)) ≡ true
shorter-passes [] b more = refl
shorter-passes (x ∷ s) b more = same_first x x s (s ++ (b ∷ more)) refl ∙ shorter-passes s b more

smaller-passes : (front : List ℕ) (b c : ℕ) (u v : List ℕ) → b < c → before? (front ++ (b ∷ u)) (front ++ (c ∷ v)) ≡ true
smaller-passes [] b c u v h = smaller_first b c u v h
smaller-passes (x ∷ front) b c u v h = same_first x x (front ++ (b ∷ u)) (front ++ (c ∷ v)) refl ∙ smaller-passes front b c u v h

before_passes : (s t : List ℕ) → InByteOrder s t → before? s t ≡ true
before_passes s t (shorter b more p) = ap (before? s) p ∙ shorter-passes s b more
before_passes s t (smaller front b c u v p q h) = ap₂ before? p q ∙ smaller-passes front b c u v h

pub before_tells : (s t : List ℕ) → Tells (before? s t) (InByteOrder s t)
before_tells s t = record { yes = passes_before s t; no = λ q h. no_both (sym (before_passes s t h) ∙ q) }

-- ── it goes through a third, and none is before itself ──
passes_through : (s t u : List ℕ) → before? s t ≡ true → before? t u ≡ true → before? s u ≡ true
passes_through s [] [] p q = no_both (sym q)
passes_through [] [] (z ∷ u) p q = refl
passes_through (x ∷ s) [] (z ∷ u) p q = no_both (sym p)
passes_through s (y ∷ t) [] p q = no_both (sym q)
passes_through [] (y ∷ t) (z ∷ u) p q = refl
passes_through (x ∷ s) (y ∷ t) (z ∷ u) p q =
    first_bytes x y s t p
    (λ h. smaller_first x z s u (first_bytes y z t u q (λ k. omega arith) (λ e k. omega arith)))
    (λ d h. first_bytes y z t u q
    (λ k. smaller_first x z s u (omega arith))
    (λ e k. same_first x z s u (d ∙ e) ∙ passes_through s t u h k))

never_passes : (s : List ℕ) → before? s s ≡ false
never_passes [] = refl
never_passes (x ∷ s) = same_first x x s s refl ∙ never_passes s

pub before_through : (s t u : List ℕ) → InByteOrder s t → InByteOrder t u → InByteOrder s u
before_through s t u h k = passes_before s u (passes_through s t u (before_passes s t h) (before_passes t u k))

pub never_before_itself : (s : List ℕ) → InByteOrder s s → ⊥
never_before_itself s h = no_both (sym (before_passes s s h) ∙ never_passes s)

-- ── labels that rise ──
module _ (last : List ℕ) (e : Entry) (es : List Entry) (q : rising_from? last (e ∷ es) ≡ true) where
  first_behind : InByteOrder (capitals last) (capitals e.label)
  first_behind =
      passes_before (capitals last) (capitals e.label)
      (and_left (before? (capitals last) (capitals e.label)) (rising_from? e.label es) q)

  rest_rises : rising_from? e.label es ≡ true
  rest_rises = and_right (before? (capitals last) (capitals e.label)) (rising_from? e.label es) q

all_behind : (last : List ℕ) (es : List Entry) → rising_from? last es ≡ true
    → (j : ℕ) → j < length es → InByteOrder (capitals last) (capitals_at es j)
all_behind last [] q j h = absurd (omega arith)
all_behind last (e ∷ es) q zero h = first_behind last e es q
all_behind last (e ∷ es) q (suc j) h =
    before_through (capitals last) (capitals e.label) (capitals_at es j)
    (first_behind last e es q)
    (all_behind e.label es (rest_rises last e es q) j (omega arith))

passes-rising : (last : List ℕ) (es : List Entry) → rising_from? last es ≡ true → LabelsRise es
passes-rising last [] q i j h k = absurd (omega arith)
passes-rising last (e ∷ es) q i zero h k = absurd (omega arith)
passes-rising last (e ∷ es) q zero (suc j) h k = all_behind e.label es (rest_rises last e es q) j (omega arith)
passes-rising last (e ∷ es) q (suc i) (suc j) h k = passes-rising e.label es (rest_rises last e es q) i j (omega arith) (omega arith)

rising-passes : (last : List ℕ) (es : List Entry) → (0 < length es → InByteOrder (capitals last) (capitals_at es 0)) → LabelsRise es
    → rising_from? last es ≡ true
rising-passes last [] b r = refl
rising-passes last (e ∷ es) b r =
    ap₂ ◌&&◌ (before_passes (capitals last) (capitals e.label) (b (omega arith)))
    (rising-passes e.label es (λ h. r 0 1 (omega arith) (omega arith)) (λ i j h k. r (suc i) (suc j) (omega arith) (omega arith)))

none_before_some : (t : List ℕ) → 1 ≤ length t → InByteOrder [] t
none_before_some [] h = absurd (omega arith)
none_before_some (b ∷ t) h = shorter b t refl

pub rising_is : (es : List Entry) → ((i : ℕ) → i < length es → 1 ≤ length (capitals_at es i)) → (rising_from? [] es ≡ true) ↔ LabelsRise es
rising_is es some = (passes-rising [] es, rising-passes [] es (λ h. none_before_some (capitals_at es 0) (some 0 h)))
