-- Two labels as they are written, compared capital by capital.
use Prim.Native.Nat.{ℕ, zero, suc, ◌+◌, ◌<◌, ◌≤◌}
use mathlib.Core.Path.{◌≡◌, refl, sym, ap, ◌∙◌}
use mathlib.Core.Bool.{Bool, true, false, ◌&&◌}
use mathlib.Core.List.{List, [], ◌∷◌}
use mathlib.Core.Logic.{◌≢◌}
use native.Mathlib.Omega.{arith}
use native.Mathlib.Numerals.{add-one}
use lib.Dec.{eqb}
use lib.ListN.{length, get_or, drop, drop_of_length-le, length-map}
use lib.Seq.{drop-cons}
use borrow.Author.Tests.{eq-eqb, ne_eqb}
use Rattle.std.specs.Bool.{MatchBool}
use Rattle.std.specs.List.{zip, AllWithin, HoldsAt}
use Rattle.lists.specs.Lists.{same?}
use Rattle.labels.specs.Label.{capital, capitals}
use Rattle.labels.proofs.Capitals.{capitals_at_lem}

-- the capitals from i on: the one at i, and the others
module _ (s : List ℕ) (i : ℕ) where
  pub capitals-from : (x : ℕ) → i < length s → x ≡ capital (get_or s i 0) → drop i (capitals s) ≡ x ∷ drop (i + 1) (capitals s)
  capitals-from x h p =
      let m : length (capitals s) ≡ length s = length-map s capital in
      drop-cons (capitals s) i 0 (omega arith) ∙ (ap (λ (z : ℕ). z ∷ drop (suc i) (capitals s)) (capitals_at_lem s i ∙ sym p) ∙ rw (add-one i) refl)

  pub capitals_end : length s ≤ i → drop i (capitals s) ≡ []
  capitals_end h =
      let m : length (capitals s) ≡ length s = length-map s capital in
      let k : length (capitals s) ≤ i = omega arith in
      drop_of_length-le (capitals s) k

abbrev pub Alike : ℕ × ℕ → Type 0
Alike p = capital p.0 ≡ capital p.1

abbrev pub Unlike : ℕ × ℕ → Type 0
Unlike p = capital p.0 ≢ capital p.1

-- one pair of bytes after the other decides
pub same_zip : (a b : List ℕ) (r : Bool) → length a ≡ length b
    → MatchBool r (AllWithin Alike (zip a b) 0 (length (zip a b))) ((k : ℕ) × (k < length (zip a b)) × HoldsAt Unlike (zip a b) k)
    → r ≡ same? (capitals a) (capitals b)
same_zip [] [] true h m = refl
same_zip [] [] false h (k, l, w) = absurd (omega arith)
same_zip [] (y ∷ b) r h m = absurd (omega arith)
same_zip (x ∷ a) [] r h m = absurd (omega arith)
same_zip (x ∷ a) (y ∷ b) true h m =
    let e : capital x ≡ capital y = m 0 (0, 0) (omega arith) (omega arith) in
    simp (eq-eqb _ _ e) (same_zip a b true (omega arith) (λ k d l g. m (suc k) d (omega arith) (omega arith)))
same_zip (x ∷ a) (y ∷ b) false h (zero, l, w) = simp (ne_eqb _ _ (w (0, 0)))
same_zip (x ∷ a) (y ∷ b) false h (suc k, l, w) = go (eqb (capital x) (capital y)) (same_zip a b false (omega arith) (k, omega arith, w))
  where
    go : (t : Bool) → false ≡ same? (capitals a) (capitals b) → false ≡ (t && same? (capitals a) (capitals b))
    go true e = e
    go false e = refl

pub bytes_length : (a b : List ℕ) → (length a ≡ length b → ⊥) → false ≡ same? (capitals a) (capitals b)
bytes_length [] [] h = absurd (h refl)
bytes_length [] (y ∷ b) h = refl
bytes_length (x ∷ a) [] h = refl
bytes_length (x ∷ a) (y ∷ b) h = go (eqb (capital x) (capital y)) (bytes_length a b (λ e. h (ap suc e)))
  where
    go : (t : Bool) → false ≡ same? (capitals a) (capitals b) → false ≡ (t && same? (capitals a) (capitals b))
    go true e = e
    go false e = refl
