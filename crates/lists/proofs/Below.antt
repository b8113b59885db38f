-- A search below a number: what it depends on, and what it finds.
use Prim.Native.Nat.{ℕ, zero, suc, ◌<◌}
use mathlib.Core.Path.{◌≡◌, refl, sym, subst, ap, ap₂}
use mathlib.Core.Bool.{Bool, true, false, ◌&&◌, ◌||◌, or-true}
use native.Mathlib.Nat.{not-suc-le-zero}
use native.Mathlib.Omega.{arith}
use Rattle.lists.specs.Lists.{any_below}
use Rattle.lists.proofs.Cases.{either_eq, no_both}

pub any_agree : (p q : ℕ → Bool) (n : ℕ) → ((j : ℕ) → j < n → p j ≡ q j) → any_below n p ≡ any_below n q
any_agree p q zero h = refl
any_agree p q (suc n) h =
    let e = any_agree p q n (λ j l. h j (omega (arith, l))) in
    let d = h n (omega arith) in
    ap₂ ◌||◌ e d

pub any_and : (d : Bool) (p : ℕ → Bool) (n : ℕ) → any_below n (λ i. d && p i) ≡ (d && any_below n p)
any_and true p n = refl
any_and false p zero = refl
any_and false p (suc n) = ap (λ (b : Bool). b || false) (any_and false p n)

-- a number below n that passes
pub found_yes : (p : ℕ → Bool) (n i : ℕ) → i < n → p i ≡ true → any_below n p ≡ true
found_yes p zero i l e = absurd (not-suc-le-zero l)
found_yes p (suc n) i l e =
    either_eq i n
    (λ q. rw (subst (λ (k : ℕ). p k ≡ true) q e) (or-true (any_below n p)))
    (λ q. rw (found_yes p n i (omega (arith, q)) e) refl)

pub found_at : (p : ℕ → Bool) (n : ℕ) → any_below n p ≡ true → (i : ℕ) × (i < n) × (p i ≡ true)
found_at p zero e = no_both (sym e)
found_at p (suc n) e = go (any_below n p) (p n) refl refl e (found_at p n)
  where
    go : (x y : Bool) → any_below n p ≡ x → p n ≡ y → (x || y) ≡ true → (any_below n p ≡ true → (i : ℕ) × (i < n) × (p i ≡ true)) → (i : ℕ) × (i < suc n) × (p i ≡ true)
    go true y f g h ih = let w = ih f in (w.0, omega arith, w.2)
    go false true f g h ih = (n, omega arith, g)
    go false false f g h ih = no_both (sym h)
