-- Laws of lists put one after another: their length, the element at a place, and a buffer to which they are stored in turn.
-- The tables of runs, labels and places, and the bytes of a label, all go by them.
use Prim.Native.Nat.{ℕ, zero, suc, ◌+◌, ◌*◌, ◌<◌, ◌≤◌}
use mathlib.Core.Path.{◌≡◌, refl, ap, sym, ◌∙◌}
use mathlib.Core.List.{List, [], ◌∷◌, ◌++◌, append_assoc}
use native.Mathlib.Omega.{arith}
use native.Mathlib.Numerals.{add-one}
use native.Mathlib.Nat.{mul-zero, mul-suc}
use lib.ListN.{length, get_or, set, take, drop, length-append, length-set, get_or-append}
use lib.Seq.{ext_get_or, get_or-append-add, take-length, take-suc-set, take_all, sets, sets-eq, length-sets}
use borrow.Rule.Slice.PartMut.{put_mid}
use Rattle.std.specs.List.{between}
use Rattle.std.proofs.lemmas.Slice.{put_mid-paste}
use Rattle.std.proofs.lemmas.List.Edits.{length-between, get_or-between}
use Rattle.lists.proofs.Cases.{either_lt}
use Rattle.lists.proofs.Lists.{append-nil}
use Rattle.record_bytes.specs.Joined.{joined, values, stored}

-- ── stores that go on where the last ones ended ──
sets_more : {A : Type 0} (l : List A) (i n : ℕ) (xs ys : List A) → n ≡ i + length xs → sets (sets l i xs) n ys ≡ sets l i (xs ++ ys)
sets_more l i n [] ys e = let z : n ≡ i = omega arith in ap (λ (k : ℕ). sets l k ys) z
sets_more l i n (x ∷ xs) ys e = sets_more (set l i x) (suc i) n xs ys (omega arith)

pub stored_after : {A : Type 0} (w v u : List A) (p n : ℕ) (xs ys : List A) → v ≡ stored w p xs → u ≡ stored v n ys → n ≡ p + length xs → u ≡ stored w p (xs ++ ys)
unfolding stored
stored_after {A = A} w v u p n xs ys e f m = f ∙ (ap (λ (l : List A). sets l n ys) e ∙ sets_more w p n xs ys m)

pub stored_long : {A : Type 0} (w v : List A) (p : ℕ) (xs : List A) → v ≡ stored w p xs → length v ≡ length w
unfolding stored
stored_long w v p xs e = ap length e ∙ length-sets w p xs

-- stores from the front on
pub stored_front : {A : Type 0} (w v xs : List A) (n : ℕ) → v ≡ stored w 0 xs → length xs ≡ n → n ≤ length w → v ≡ xs ++ drop n w
unfolding stored
stored_front w v xs n g e h = let z : 0 + length xs ≡ n = omega arith in g ∙ (sets-eq xs w 0 (omega arith) ∙ ap (λ (k : ℕ). xs ++ drop k w) z)

-- one store
pub stored_one : {A : Type 0} (w : List A) (p : ℕ) (x : A) → set w p x ≡ stored w p (x ∷ [])
unfolding stored
stored_one w p x = refl

pub stored_first : {A : Type 0} (w v : List A) (p n : ℕ) (x : A) (xs : List A) → v ≡ stored (set w p x) n xs → n ≡ p + 1 → v ≡ stored w p (x ∷ xs)
stored_first w v p n x xs e m = stored_after w (set w p x) v p n (x ∷ []) xs (stored_one w p x) e m

-- a part of a buffer that another list is copied over
pub stored_part : {A : Type 0} (w xs ys : List A) (p k : ℕ) → ys ≡ xs → length xs ≡ k → p + k ≤ length w → put_mid p k w ys ≡ stored w p xs
unfolding stored
stored_part w xs ys p k e long room =
    put_mid-paste p k w ys xs (length xs) e long refl
    ∙ (rw take-length (sym (sets-eq xs w p (omega arith))))

-- ── lists of one length, one after another ──
pub joined_none : {A : Type 0} (f : ℕ → List A) (l : List A) (at : ℕ) → l ≡ stored l at (joined 0 f)
unfolding joined stored
joined_none f l at = refl

joined-more : {A : Type 0} (f : ℕ → List A) (i : ℕ) → joined (i + 1) f ≡ joined i f ++ f i
unfolding joined
joined-more f i = rw add-one

module _ {A : Type 0} (w : ℕ) (f : ℕ → List A) (wide : (i : ℕ) → length (f i) ≡ w) where
  pub length-joined : (n : ℕ) → length (joined n f) ≡ w * n
  unfolding joined
  length-joined zero = sym (mul-zero w)
  length-joined (suc n) = length-append (joined n f) (f n) ∙ ((λ i. length-joined n i + wide n i) ∙ sym (mul-suc w n))

  -- element k of list i
  pub joined_at : (d : A) (n i k m : ℕ) (rest : List A) → i < n → k < w → m ≡ w * i + k → get_or (joined n f ++ rest) m d ≡ get_or (f i) k d
  unfolding joined
  joined_at d zero i k m rest h b e = absurd (omega arith)
  joined_at d (suc n) i k m rest h b e =
      rw append_assoc
      (either_lt i n
      (λ low. joined_at d n i k m (f n ++ rest) low b e)
      (λ high.
      let same : n ≡ i = omega arith in
      let z : m ≡ length (joined n f) + k = e ∙ ap (λ (x : ℕ). x + k) (ap (λ (x : ℕ). w * x) (sym same) ∙ sym (length-joined n)) in
      ap (λ (x : ℕ). get_or (joined n f ++ (f n ++ rest)) x d) z
      ∙ (get_or-append-add (joined n f) (f n ++ rest) k d
      ∙ (get_or-append (f n) rest d k (omega (arith, wide n)) ∙ ap (λ (x : ℕ). get_or (f x) k d) same))))

  -- list i stored behind the ones before it
  pub joined_next : (l l' l₀ : List A) (at i n : ℕ) (x : List A) → l ≡ stored l₀ at (joined i f) → n ≡ at + w * i → x ≡ f i → l' ≡ stored l n x → l' ≡ stored l₀ at (joined (i + 1) f)
  joined_next l l' l₀ at i n x e p q g =
      let z : n ≡ at + length (joined i f) = p ∙ ap (λ (k : ℕ). at + k) (sym (length-joined i)) in
      stored_after l₀ l l' at n (joined i f) (f i) e (g ∙ ap (stored l n) q) z ∙ ap (stored l₀ at) (sym (joined-more f i))

-- ── the values of a function ──
module _ {A : Type 0} (f : ℕ → A) where
  pub length_values : (n : ℕ) → length (values n f) ≡ n
  length_values n = let e : 1 * n ≡ n = omega arith in length-joined 1 (λ k. f k ∷ []) (λ _. refl) n ∙ e

  pub values_at : (d : A) (n i m : ℕ) (rest : List A) → i < n → m ≡ i → get_or (values n f ++ rest) m d ≡ f i
  values_at d n i m rest h e = joined_at 1 (λ k. f k ∷ []) (λ _. refl) d n i 0 m rest h (omega arith) (omega arith)

  pub value_at : (d : A) (n i : ℕ) → i < n → get_or (values n f) i d ≡ f i
  value_at d n i h = ap (λ (y : List A). get_or y i d) (sym (append-nil (values n f))) ∙ values_at d n i i [] h refl

  -- a list that has f's values in order
  pub values_are : (d : A) (n : ℕ) (l : List A) → length l ≡ n → ((i : ℕ) → i < n → f i ≡ get_or l i d) → values n f ≡ l
  values_are d n l long same =
      ext_get_or d (values n f) l (length_values n ∙ sym long)
      (λ i h. let low : i < n = omega (arith, length_values n) in value_at d n i low ∙ same i low)

  -- the same of a part of a list
  pub values_between : (d : A) (n p q : ℕ) (l : List A) → q ≡ p + n → q ≤ length l → ((i : ℕ) → f i ≡ get_or l (p + i) d) → values n f ≡ between p q l
  values_between d n p q l e room same =
      values_are d n (between p q l) (omega (arith, length-between l p q room))
      (λ i low. same i ∙ sym (get_or-between l p q i d (omega arith)))

  -- value i stored behind the ones before it
  pub value_next : (l l₀ : List A) (at i n : ℕ) (x : A) → l ≡ stored l₀ at (values i f) → n ≡ at + i → x ≡ f i → set l n x ≡ stored l₀ at (values (i + 1) f)
  value_next l l₀ at i n x e p q =
      joined_next 1 (λ k. f k ∷ []) (λ _. refl) l (set l n x) l₀ at i n (x ∷ []) e (omega arith) (ap (λ (y : A). y ∷ []) q) (stored_one l n x)

-- ── an array that is filled from its front ──
-- the first i of n elements are values of f
abbrev pub Filled : {A : Type 0} → (ℕ → A) → ℕ → List A → ℕ → Type 0
Filled f n l i = (length l ≡ n) × (take i l ≡ values i f)

pub none_filled : {A : Type 0} (f : ℕ → A) → [] ≡ values 0 f
unfolding joined
none_filled f = refl

module _ {A : Type 0} (f : ℕ → A) (n : ℕ) (l : List A) where
  pub filled_next : (i : ℕ) (x : A) → Filled f n l i → i < n → x ≡ f i → Filled f n (set l i x) (i + 1)
  filled_next i x g h q =
      let low : i < length l = omega (arith, g.0) in
      let e : take (suc i) (set l i x) ≡ values i f ++ (f i ∷ []) = take-suc-set l i x low ∙ (λ j. g.1 j ++ (q j ∷ [])) in
      (length-set l i x ∙ g.0, rw add-one (e ∙ (sym (joined-more (λ k. f k ∷ []) i) ∙ rw add-one)))

  pub filled_all : (i : ℕ) → Filled f n l i → i ≡ n → l ≡ values n f
  filled_all i g e = sym (take_all n l (omega (arith, g.0))) ∙ rw e at g.1
