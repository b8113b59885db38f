-- A sign is no other sign.
use Prim.Native.Nat.{ℕ}
use mathlib.Core.Path.{◌≡◌, refl, sym, ◌∙◌}
use mathlib.Core.Bool.{Bool, true, false}
use mathlib.Core.Option.{Option, none, some}
use mathlib.Core.List.{List, [], ◌∷◌}
use native.Mathlib.Omega.{arith}
use lib.Dec.{eqb}
use borrow.Author.Tests.{eqb-true, ne_eqb}
use Rattle.signs.specs.Signs.{behind, skip, sign}

not_some : {A : Type 0} (a : A) → ◌≡◌ {A = Option A} none (some a) → ⊥
not_some a e = let z : ◌≡◌ {A = ℕ} 0 1 = cc in omega arith

other : (c e : ℕ) → (c ≡ e → ⊥) → (v w s r : List ℕ) → behind (c ∷ v) s ≡ some r → behind (e ∷ w) s ≡ none
other c e n v w [] r x = absurd (not_some r x)
other c e n v w (b ∷ s) r x = go (eqb b c) refl
  where
    go : (t : Bool) → eqb b c ≡ t → behind (e ∷ w) (b ∷ s) ≡ none
    go true q =
        let i : b ≡ c = eqb-true b c q in
        let j : eqb b e ≡ false = ne_eqb b e (λ h. n (sym i ∙ h)) in
        simp j
    go false q = absurd (not_some r (let y : behind (c ∷ v) (b ∷ s) ≡ none = simp q in sym y ∙ x))

-- where one is found, one with another first byte is not
pub other_sign : (c e : ℕ) → (c ≡ e → ⊥) → (v w s r : List ℕ) → sign (c ∷ v) s ≡ some r → sign (e ∷ w) s ≡ none
unfolding sign
other_sign c e n v w s r x = other c e n v w (skip s) r x
