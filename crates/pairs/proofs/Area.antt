-- Laws of an area of any layout: its bytes, one law for all lists that have them, and a buffer that starts with it.
use Prim.Native.Nat.{ℕ, zero, suc, ◌+◌, ◌-◌, ◌<◌, ◌≤◌}
use mathlib.Core.Path.{◌≡◌, refl, ap, sym, ◌∙◌, subst}
use mathlib.Core.Logic.{◌⊎◌, ⊎_elim}
use mathlib.Core.List.{List, ◌++◌}
use native.Mathlib.Omega.{arith}
use native.Mathlib.Nat.{add-zero}
use lib.ListN.{length, get_or, drop, length-append, length-drop, get_or-append}
use lib.Seq.{ext_get_or, get_or-append-add, get_or-drop, drop_at}
use borrow.Author.Tests.{eq-eqb, ne_eqb}
use Rattle.lists.specs.Limits.{max_runs}
use Rattle.lists.proofs.Cases.{either_eq, either_lt}
use Rattle.pairs.specs.Layout.{Places, NoPair, Area, among_first, byte_at, tab_from, area_of, area_in}
use Rattle.pairs.specs.Code.{Stored}

-- ── a table of a function's values ──
length-tab : (k n : ℕ) (f : ℕ → ℕ) → length (tab_from k n f) ≡ n
unfolding tab_from
length-tab k zero f = refl
length-tab k (suc n) f = ap suc (length-tab (k + 1) n f)

get_d_tab : (k n : ℕ) (f : ℕ → ℕ) (i : ℕ) → i < n → get_or (tab_from k n f) i 0 ≡ f (k + i)
unfolding tab_from
get_d_tab k zero f i h = absurd (omega arith)
get_d_tab k (suc n) f zero h = ap f (sym (add-zero k))
get_d_tab k (suc n) f (suc i) h =
    let e : k + 1 + i ≡ k + suc i = omega arith in
    get_d_tab (k + 1) n f i (omega arith) ∙ ap f e

-- ── the byte at a place ──
module _ (spot f : ℕ → ℕ → ℕ) (k c : ℕ) where
  -- it is c, if the byte of each pair with that place is c, and so is what stands where there is none
  first_is : (d y n : ℕ) → ((a : ℕ) → a < n → spot a y ≡ k → f a y ≡ c) → (((a : ℕ) → a < n → spot a y ≡ k → ⊥) → d ≡ c) → among_first spot f k d y n ≡ c
  unfolding among_first
  first_is d y zero hit miss = miss (λ a h. absurd (omega arith))
  first_is d y (suc x) hit miss =
      either_eq (spot x y) k
      (λ e. simp (eq-eqb _ _ e) (hit x (omega arith) e))
      (λ n. simp (ne_eqb _ _ n) (first_is d y x (λ a h. hit a (omega arith))
      (λ m. miss (λ a h e. either_eq a x (λ p. n (rw p at e)) (λ p. m a (omega arith) e)))))

  byte_is : (n : ℕ) → ((a b : ℕ) → a < b → b < n → spot a b ≡ k → f a b ≡ c) → (((a b : ℕ) → a < b → b < n → spot a b ≡ k → ⊥) → 0 ≡ c) → byte_at spot f k n ≡ c
  unfolding byte_at
  byte_is zero hit miss = miss (λ a b h j. absurd (omega arith))
  byte_is (suc y) hit miss =
      first_is (byte_at spot f k y) y y (λ a h. hit a y h (omega arith))
      (λ none. byte_is y (λ a b h j. hit a b h (omega arith))
      (λ m. miss (λ a b h j e. either_eq b y (λ p. none a (omega arith) (rw p at e)) (λ p. m a b h (omega arith) e))))

-- ── an area ──
module _ (n : ℕ) (spot f : ℕ → ℕ → ℕ) where
  pub length_area : length (area_of n spot f) ≡ n
  unfolding area_of
  length_area = length-tab 0 n (λ (k : ℕ). byte_at spot f k max_runs)

  area_byte : (k : ℕ) → k < n → get_or (area_of n spot f) k 0 ≡ byte_at spot f k max_runs
  unfolding area_of
  area_byte k h =
      let z : 0 + k ≡ k = omega arith in
      get_d_tab 0 n (λ (j : ℕ). byte_at spot f j max_runs) k h ∙ ap (λ (j : ℕ). byte_at spot f j max_runs) z

  area_pair : Places n spot → (a b : ℕ) → a < b → b < max_runs → get_or (area_of n spot f) (spot a b) 0 ≡ f a b
  area_pair p a b h k =
      area_byte (spot a b) (p.low a b h k)
      ∙ byte_is spot f (spot a b) (f a b) max_runs
      (λ c d i j e. let q = p.apart c d a b i j h k e in λ i. f (q.0 i) (q.1 i))
      (λ none. absurd (none a b h k refl))

  area_other : (k : ℕ) → k < n → NoPair spot k → get_or (area_of n spot f) k 0 ≡ 0
  area_other k h none = area_byte k h ∙ byte_is spot f k 0 max_runs (λ a b i j e. absurd (none a b i j e)) (λ _. refl)

  area_zero : ((a b : ℕ) → a < b → b < max_runs → f a b ≡ 0) → (k : ℕ) → k < n → get_or (area_of n spot f) k 0 ≡ 0
  area_zero z k h = area_byte k h ∙ byte_is spot f k 0 max_runs (λ a b i j _. z a b i j) (λ _. refl)

  -- what computes is an area, and every area is what computes
  pub is_area : Places n spot → Area n spot f (area_of n spot f)
  is_area p = record { size = length_area; pairs = area_pair p; others = area_other }

  by_pairs : (v : List ℕ) → ((a b : ℕ) → a < b → b < max_runs → get_or v (spot a b) 0 ≡ f a b) → ((k : ℕ) → k < n → NoPair spot k → get_or v k 0 ≡ 0)
      → (k : ℕ) → k < n → get_or v k 0 ≡ get_or (area_of n spot f) k 0
  by_pairs v pairs others k l =
      sym (area_byte k l ∙ byte_is spot f k (get_or v k 0) max_runs
      (λ a b i j e. sym (pairs a b i j) ∙ ap (λ (q : ℕ). get_or v q 0) e)
      (λ none. sym (others k l none)))

  pub only_area : (v : List ℕ) → Area n spot f v → v ≡ area_of n spot f
  only_area v r =
      ext_get_or 0 v (area_of n spot f) (r.size ∙ sym length_area) (λ k h. by_pairs v r.pairs r.others k (omega (arith, r.size)))

  -- ── a buffer that starts with an area ──
  pub length-area_in : (w : List ℕ) → length (area_in n spot f w) ≡ n + (length w - n)
  length-area_in w = omega (arith, length-append (area_of n spot f) (drop n w), length_area, length-drop n w)

  pub get_d_area_in : (w : List ℕ) (k : ℕ) → k < n → get_or (area_in n spot f w) k 0 ≡ get_or (area_of n spot f) k 0
  get_d_area_in w k h = get_or-append (area_of n spot f) (drop n w) 0 k (omega (arith, length_area))

  pub area_in_rest : (w : List ℕ) (k : ℕ) → n ≤ k → get_or (area_in n spot f w) k 0 ≡ get_or w k 0
  area_in_rest w k h =
      let e : k ≡ length (area_of n spot f) + (k - n) = omega (arith, length_area) in
      let g : n + (k - n) ≡ k = omega arith in
      ap (λ (j : ℕ). get_or (area_in n spot f w) j 0) e
      ∙ (get_or-append-add (area_of n spot f) (drop n w) (k - n) 0
      ∙ (get_or-drop n w (k - n) 0 ∙ ap (λ (j : ℕ). get_or w j 0) g))

  pub area_in_pair : Places n spot → (w : List ℕ) (a b : ℕ) → a < b → b < max_runs → get_or (area_in n spot f w) (spot a b) 0 ≡ f a b
  area_in_pair p w a b h k = get_d_area_in w (spot a b) (p.low a b h k) ∙ area_pair p a b h k

  pub area_in_other : (w : List ℕ) (k : ℕ) → k < n → NoPair spot k → get_or (area_in n spot f w) k 0 ≡ 0
  area_in_other w k h none = get_d_area_in w k h ∙ area_other k h none

  pub area_in_zero : ((a b : ℕ) → a < b → b < max_runs → f a b ≡ 0) → (w : List ℕ) (k : ℕ) → k < n → get_or (area_in n spot f w) k 0 ≡ 0
  area_in_zero z w k h = get_d_area_in w k h ∙ area_zero z k h

  -- a list that has its bytes, and goes on as w does
  pub front-area_in : (v w : List ℕ) → length v ≡ n + (length w - n) → ((k : ℕ) → k < n → get_or v k 0 ≡ get_or (area_of n spot f) k 0)
      → ((k : ℕ) → n ≤ k → get_or v k 0 ≡ get_or w k 0) → v ≡ area_in n spot f w
  front-area_in v w size front rest =
      ext_get_or 0 v (area_in n spot f w) (size ∙ sym (length-area_in w))
      (λ k _. either_lt k n (λ l. front k l ∙ sym (get_d_area_in w k l)) (λ l. rest k l ∙ sym (area_in_rest w k l)))

  pub is_area_in : (v w : List ℕ) → length v ≡ n + (length w - n)
      → ((a b : ℕ) → a < b → b < max_runs → get_or v (spot a b) 0 ≡ f a b) → ((k : ℕ) → k < n → NoPair spot k → get_or v k 0 ≡ 0)
      → ((k : ℕ) → n ≤ k → get_or v k 0 ≡ get_or w k 0) → v ≡ area_in n spot f w
  is_area_in v w size pairs others rest = front-area_in v w size (by_pairs v pairs others) rest

  -- an area written over another
  pub area_in_over : (g : ℕ → ℕ → ℕ) (w : List ℕ) → area_in n spot g (area_in n spot f w) ≡ area_in n spot g w
  area_in_over g w = ap (λ (x : List ℕ). area_of n spot g ++ x) (drop_at (area_of n spot f) (drop n w) n length_area)

-- the same bytes give the same area
pub area_in_same : (n : ℕ) (spot f g : ℕ → ℕ → ℕ) (w : List ℕ) → Places n spot → ((a b : ℕ) → a < b → b < max_runs → f a b ≡ g a b) → area_in n spot f w ≡ area_in n spot g w
area_in_same n spot f g w p same =
    is_area_in n spot g (area_in n spot f w) w (length-area_in n spot f w)
    (λ a b h k. area_in_pair n spot f p w a b h k ∙ same a b h k) (area_in_other n spot f w) (area_in_rest n spot f w)

-- ── stores in an area ──
-- THE LAW: of an area with g's bytes, in which f's are stored for the pairs that are chosen; each other pair has f's byte already
pub stored_area : (n : ℕ) (spot : ℕ → ℕ → ℕ) → Places n spot → (f g : ℕ → ℕ → ℕ) (Chosen : ℕ → ℕ → Type 0) (u w v : List ℕ)
    → w ≡ area_in n spot g u → Stored spot f Chosen w v
    → ((a b : ℕ) → a < b → b < max_runs → Chosen a b ⊎ ((Chosen a b → ⊥) × (g a b ≡ f a b))) → v ≡ area_in n spot f u
stored_area n spot p f g Chosen u w v e s each =
    is_area_in n spot f v u (s.size ∙ (ap length e ∙ length-area_in n spot g u))
    (λ a b h k. ⊎_elim (s.pairs a b h k)
    (λ m. s.others (spot a b) (λ c d i j o q. let r = p.apart a b c d h k i j (sym q) in m.0 (subst (λ (y : ℕ). Chosen a y) (sym r.1) (subst (λ (x : ℕ). Chosen x d) (sym r.0) o)))
    ∙ (ap (λ (x : List ℕ). get_or x (spot a b) 0) e ∙ (area_in_pair n spot g p u a b h k ∙ m.1)))
    (each a b h k))
    (λ k h none. s.others k (λ a b i j _. none a b i j) ∙ (ap (λ (x : List ℕ). get_or x k 0) e ∙ area_in_other n spot g u k h none))
    (λ k h. s.others k (λ a b i j _ q. let l = p.low a b i j in absurd (omega arith)) ∙ (ap (λ (x : List ℕ). get_or x k 0) e ∙ area_in_rest n spot g u k h))
