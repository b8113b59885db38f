-- Laws of lists that the kit lacks: padding, bytes that occur or not, two arrays compared.
use Prim.Native.Nat.{ℕ, zero, suc, ◌+◌, ◌-◌, ◌<◌, ◌≤◌}
use mathlib.Core.Path.{◌≡◌, refl, ap, sym, ◌∙◌, subst}
use mathlib.Core.Logic.{◌≢◌}
use mathlib.Core.List.{List, [], ◌∷◌, ◌++◌, append_assoc, map}
use mathlib.Core.Bool.{Bool, true, false}
use native.Mathlib.Omega.{arith}
use lib.ListN.{length, get_or, set, take, replicate, length-append, length-map, length-replicate, get_or-replicate, get_or-append, get_or-eq_default}
use lib.Seq.{set-append_seam, take-append_seam, get_or-append-add, ext_get_or}
use borrow.Author.Tests.{eq-eqb, ne_eqb}
use lib.Dec.{eqb}
use Rattle.lists.specs.Lists.{pad, all?, has?, up_to, past, same?}
use Rattle.lists.specs.Tells.{Tells}
use Rattle.lists.proofs.Cases.{either_eq, either_lt, either_bool, no_both, and_left, and_right}
use Rattle.lists.proofs.Tells.{tell_yes, tell_no}

pub append-nil : {A : Type 0} (l : List A) → l ++ [] ≡ l
append-nil [] = refl
append-nil {A = A} (x ∷ l) = ap (λ (y : List A). x ∷ y) (append-nil l)

-- an array's length, from what is known of a value that holds it
pub unmapped : {A B : Type 0} (f : A → B) (l : List A) (n : ℕ) → length (map f l) ≡ n → length l ≡ n
unmapped f l n e = sym (length-map l f) ∙ e

-- an array of zeros
pub zeros : (n i : ℕ) → get_or {A = ℕ} (replicate n 0) i 0 ≡ 0
zeros zero i = refl
zeros (suc n) zero = refl
zeros (suc n) (suc i) = zeros n i

-- ── a list that is filled up ──
-- a store just past the end
pub set-pad : {A : Type 0} (d : A) (n : ℕ) (xs : List A) (a : A) → length xs < n → set (pad d n xs) (length xs) a ≡ pad d n (xs ++ (a ∷ []))
unfolding pad
set-pad d n xs a h =
    let k : ℕ = n - length xs - 1 in
    let e : n - length xs ≡ suc k = omega arith in
    let f : n - length (xs ++ (a ∷ [])) ≡ k = simp length-append (omega arith) in
    ap (λ (m : ℕ). set (xs ++ replicate m d) (length xs) a) e
    ∙ (set-append_seam xs d (replicate k d) a
    ∙ (sym (append_assoc xs (a ∷ []) (replicate k d))
    ∙ ap (λ (m : ℕ). (xs ++ (a ∷ [])) ++ replicate m d) (sym f)))

pub take-pad : {A : Type 0} (d : A) (n : ℕ) (xs : List A) → take (length xs) (pad d n xs) ≡ xs
unfolding pad
take-pad d n xs = take-append_seam xs (replicate (n - length xs) d)

-- reading never tells the list from the filled-up one
pub get_d_pad : {A : Type 0} (d : A) (n : ℕ) (xs : List A) (k : ℕ) → get_or (pad d n xs) k d ≡ get_or xs k d
unfolding pad
get_d_pad d n xs k =
    let m : ℕ = n - length xs in
    either_lt k (length xs)
    (λ h. get_or-append xs (replicate m d) d k h)
    (λ h.
    let e : k ≡ length xs + (k - length xs) = omega arith in
    let f : get_or (replicate m d) (k - length xs) d ≡ d =
    either_lt (k - length xs) m (λ l. get_or-replicate m (k - length xs) d d l) (λ l. get_or-eq_default (replicate m d) d (omega (arith, length-replicate m d))) in
    ap (λ (j : ℕ). get_or (xs ++ replicate m d) j d) e ∙ (get_or-append-add xs (replicate m d) (k - length xs) d ∙ (f ∙ sym (get_or-eq_default xs d h))))

-- ── equality of byte strings ──
pub same_refl : (s : List ℕ) → same? s s ≡ true
same_refl [] = refl
same_refl (x ∷ xs) = simp (eq-eqb x x refl) (same_refl xs)

pub same_eq : (a s : List ℕ) → same? a s ≡ true → a ≡ s
same_eq [] [] e = refl
same_eq [] (y ∷ ys) e = no_both (sym e)
same_eq (x ∷ xs) [] e = no_both (sym e)
same_eq (x ∷ xs) (y ∷ ys) e =
    either_eq x y
    (λ p. let f : same? xs ys ≡ true = simp (eq-eqb _ _ p) at e in
    (λ i. p i ∷ same_eq xs ys f i))
    (λ p. let f : false ≡ true = simp (ne_eqb _ _ p) at e in no_both (sym f))

pub same_tells : (a s : List ℕ) → Tells true (a ≡ s) → same? a s ≡ true
same_tells a s t = ap (λ (x : List ℕ). same? x s) (t.yes refl) ∙ same_refl s

pub same_not : (a s : List ℕ) → Tells false (a ≡ s) → same? a s ≡ false
same_not a s t = either_bool (same? a s) (λ e. absurd (t.no refl (same_eq a s e))) (λ e. e)

-- ── two arrays compared element by element ──
module _ {A : Type 0} (d : A) (a b : List A) (n : ℕ) where
  pub alike : length a ≡ n → length b ≡ n → (i : ℕ) → n ≤ i → ((j : ℕ) → j < i → get_or a j d ≡ get_or b j d) → Tells true (a ≡ b)
  alike p q i k h = tell_yes (ext_get_or d a b (p ∙ sym q) (λ j w. h j (omega arith)))

  pub differ : (i : ℕ) → (get_or a i d ≡ get_or b i d → ⊥) → Tells false (a ≡ b)
  differ i h = tell_no (λ e. h (ap (λ (l : List A). get_or l i d) e))

  pub one_like : (i : ℕ) → ((j : ℕ) → j < i → get_or a j d ≡ get_or b j d) → get_or a i d ≡ get_or b i d → (j : ℕ) → j < i + 1 → get_or a j d ≡ get_or b j d
  one_like i h e j k = either_eq j i (λ p. subst (λ (x : ℕ). get_or a x d ≡ get_or b x d) (sym p) e) (λ p. h j (omega arith))

-- ── a byte that does not occur ──
abbrev pub Free : ℕ → List ℕ → Type 0
Free c [] = Unit {0}
Free c (x ∷ xs) = (x ≢ c) × Free c xs

module _ (c : ℕ) where
  pub free_more : (a b : List ℕ) → Free c a → Free c b → Free c (a ++ b)
  free_more [] b f g = g
  free_more (x ∷ a) b f g = (f.0, free_more a b f.1 g)

  pub has_seam : (a b : List ℕ) → has? c (a ++ (c ∷ b)) ≡ true
  has_seam [] b = simp (eq-eqb c c refl)
  has_seam (x ∷ a) b = either_bool (eqb x c) (λ e. simp e) (λ e. simp e (has_seam a b))

  pub has_none : (a : List ℕ) → Free c a → has? c a ≡ false
  has_none [] f = refl
  has_none (x ∷ a) f = simp (ne_eqb _ _ f.0) (has_none a f.1)

  pub up_seam : (a b : List ℕ) → Free c a → up_to c (a ++ (c ∷ b)) ≡ a
  up_seam [] b f = simp (eq-eqb c c refl)
  up_seam (x ∷ a) b f = simp (ne_eqb _ _ f.0) (ap (λ (l : List ℕ). x ∷ l) (up_seam a b f.1))

  pub past_seam : (a b : List ℕ) → Free c a → past c (a ++ (c ∷ b)) ≡ b
  past_seam [] b f = simp (eq-eqb c c refl)
  past_seam (x ∷ a) b f = simp (ne_eqb _ _ f.0) (past_seam a b f.1)

-- a test that all of two lists pass
pub all_more : (f : ℕ → Bool) (a b : List ℕ) → all? f a ≡ true → all? f b ≡ true → all? f (a ++ b) ≡ true
all_more f [] b p q = q
all_more f (x ∷ a) b p q = simp (and_left (f x) (all? f a) p) (all_more f a b (and_right (f x) (all? f a) p) q)
