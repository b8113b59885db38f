-- Byte order, capital by capital: what is left of two labels decides, as long as the capitals passed are the same.
use Prim.Native.Nat.{ℕ, ◌+◌, ◌<◌, ◌≤◌, min}
use mathlib.Core.Path.{◌≡◌, refl, sym, ◌∙◌}
use mathlib.Core.Bool.{true, false, ◌&&◌, ◌||◌}
use mathlib.Core.List.{List, [], ◌∷◌}
use native.Mathlib.Omega.{arith}
use lib.Dec.{eqb, ltb}
use lib.ListN.{length, get_or, drop}
use borrow.Author.Tests.{eq-eqb, ne_eqb, lt-ltb, le-ltb}
use Rattle.labels.specs.Label.{capital, capitals}
use Rattle.labels.proofs.Compared.{capitals-from, capitals_end}
use Rattle.lists.proofs.Cases.{either_lt}
use Rattle.label_book.specs.Reading.{before?}

module _ (s t : List ℕ) (i : ℕ) (e : before? (drop i (capitals s)) (drop i (capitals t)) ≡ before? (capitals s) (capitals t)) where
  -- one of the two has ended
  pub ends : i ≡ min (length s) (length t) → ltb (length s) (length t) ≡ before? (capitals s) (capitals t)
  ends h =
      either_lt i (length t)
      (λ k.
      let g : before? (drop i (capitals s)) (drop i (capitals t)) ≡ true =
      rw (capitals_end s i (omega arith), capitals-from t i (capital (get_or t i 0)) k refl) refl in
      lt-ltb (length s) (length t) (omega arith) ∙ sym g ∙ e)
      (λ k. ended k (drop i (capitals s)) (rw (capitals_end t i k) at e))
    where
      ended : length t ≤ i → (x : List ℕ) → before? x [] ≡ before? (capitals s) (capitals t) → ltb (length s) (length t) ≡ before? (capitals s) (capitals t)
      ended k [] f = le-ltb (length s) (length t) (omega arith) ∙ f
      ended k (b ∷ x) f = le-ltb (length s) (length t) (omega arith) ∙ f

  module _ (x y : ℕ) (p : x ≡ capital (get_or s i 0)) (q : y ≡ capital (get_or t i 0)) (h : i < length s) (k : i < length t) where
    here : before? (drop i (capitals s)) (drop i (capitals t)) ≡ (ltb x y || eqb x y && before? (drop (i + 1) (capitals s)) (drop (i + 1) (capitals t)))
    here = rw (capitals-from s i x h p, capitals-from t i y k q) refl

    pub capital-less : x < y → true ≡ before? (capitals s) (capitals t)
    capital-less l =
        let g : (ltb x y || eqb x y && before? (drop (i + 1) (capitals s)) (drop (i + 1) (capitals t))) ≡ true = simp (lt-ltb x y l) in
        sym g ∙ sym here ∙ e

    pub capital_greater : y < x → false ≡ before? (capitals s) (capitals t)
    capital_greater l =
        let g : (ltb x y || eqb x y && before? (drop (i + 1) (capitals s)) (drop (i + 1) (capitals t))) ≡ false = simp (le-ltb x y (omega arith), ne_eqb x y (λ z. omega arith)) in
        sym g ∙ sym here ∙ e

    pub capital_same : x ≤ y → y ≤ x → before? (drop (i + 1) (capitals s)) (drop (i + 1) (capitals t)) ≡ before? (capitals s) (capitals t)
    capital_same l m =
        let g : (ltb x y || eqb x y && before? (drop (i + 1) (capitals s)) (drop (i + 1) (capitals t))) ≡ before? (drop (i + 1) (capitals s)) (drop (i + 1) (capitals t)) = simp (le-ltb x y m, eq-eqb x y (omega arith)) in
        sym g ∙ sym here ∙ e
