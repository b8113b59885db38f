-- Loops over the rows of a table: what a store does to each row, and one turn of any of them.
use Prim.Native.Nat.{ℕ, ◌+◌, ◌*◌, ◌<◌}
use mathlib.Core.Path.{◌≡◌, refl, sym, subst, ap, ap₂, ◌∙◌}
use mathlib.Core.Bool.{Bool, true, false, not, ◌&&◌, ◌||◌, and-true, and-false}
use mathlib.Core.List.{List}
use native.Mathlib.Nat.{le_refl}
use native.Mathlib.Numerals.{add-one}
use native.Mathlib.Omega.{arith}
use lib.Dec.{leb}
use lib.ListN.{length, get_or, set, length-set}
use lib.Seq.{get_or-set_same, get_or-set_other}
use Rattle.lists.specs.Lists.{any_below}
use Rattle.lists.proofs.Cases.{either_eq}
use Rattle.sets.specs.Sets.{mem, any_up_to}
use Rattle.sets.specs.declared.RunSet.{RunSet}
use Rattle.set_table.specs.Rows.{row, Stored, RowByRow, Narrowed, StartOf, LeftOf}

-- ── one store ──
module _ (w : List ℕ) (k : ℕ) (s : RunSet) where
  abbrev put : List ℕ
  put = set (set w (2 * k) s.lo) (2 * k + 1) s.hi

  put_same : 2 * k + 1 < length w → row put k ≡ s
  put_same h =
      let e : get_or put (2 * k) 0 ≡ s.lo =
      get_or-set_other (set w (2 * k) s.lo) (2 * k + 1) (2 * k) s.hi 0 (omega arith) ∙ get_or-set_same w (2 * k) s.lo 0 (omega arith) in
      let l : 2 * k + 1 < length (set w (2 * k) s.lo) = simp length-set (omega arith) in
      let f : get_or put (2 * k + 1) 0 ≡ s.hi = get_or-set_same (set w (2 * k) s.lo) (2 * k + 1) s.hi 0 l in
      ap₂ (λ (a b : ℕ). record { lo = a; hi = b }) e f

  put_other : (i : ℕ) → (i ≡ k → ⊥) → row put i ≡ row w i
  put_other i n =
      let e : get_or put (2 * i) 0 ≡ get_or w (2 * i) 0 =
      get_or-set_other (set w (2 * k) s.lo) (2 * k + 1) (2 * i) s.hi 0 (omega arith) ∙ get_or-set_other w (2 * k) (2 * i) s.lo 0 (omega arith) in
      let f : get_or put (2 * i + 1) 0 ≡ get_or w (2 * i + 1) 0 =
      get_or-set_other (set w (2 * k) s.lo) (2 * k + 1) (2 * i + 1) s.hi 0 (omega arith) ∙ get_or-set_other w (2 * k) (2 * i + 1) s.lo 0 (omega arith) in
      ap₂ (λ (a b : ℕ). record { lo = a; hi = b }) e f

  pub put_stored : 2 * k + 1 < length w → Stored w put k s
  put_stored h = record { long = simp length-set; same = put_same h; other = put_other }

-- ── a loop that changes row after row ──
module _ (Becomes : ℕ → RunSet → RunSet → Type 0) (old : List ℕ) where
  pub rows_none : RowByRow Becomes 0 old old
  rows_none = record { long = refl; rows = λ k l. absurd (omega arith); rest = λ k l. refl }

  pub rows_more : (w new : List ℕ) (k : ℕ) (s : RunSet) → RowByRow Becomes k old w → Stored w new k s → Becomes k (row w k) s → RowByRow Becomes (k + 1) old new
  rows_more w new k s d e b = record {
    long = e.long ∙ d.long;
    rows = λ i l. either_eq i k
        (λ q. subst (λ (u : ℕ). Becomes u (row old u) (row new u)) (sym q)
        (subst (λ (t : RunSet). Becomes k t (row new k)) (d.rest k (le_refl k)) (subst (λ (t : RunSet). Becomes k (row w k) t) (sym e.same) b)))
        (λ n. subst (λ (t : RunSet). Becomes i (row old i) t) (sym (e.other i n)) (d.rows i (omega (arith, n))));
    rest = λ i l. e.other i (omega arith) ∙ d.rest i (omega arith);
  }

-- each row became what P says of it, and so what Q says
pub rows_as : (P Q : ℕ → RunSet → RunSet → Type 0) (n : ℕ) (old new : List ℕ) → RowByRow P n old new
    → ((k : ℕ) (a s : RunSet) → k < n → P k a s → Q k a s) → RowByRow Q n old new
rows_as P Q n old new d f = record { long = d.long; rows = λ k l. f k (row old k) (row new k) l (d.rows k l); rest = d.rest }

-- ── what row a becomes: s ──
module _ (s a t v : RunSet) (e : t ≡ v) where
  pub meet_row : ((j : ℕ) → mem s j ≡ (mem a j && mem t j)) → Narrowed (mem v) a s
  meet_row h j l = h j ∙ ap (λ (x : RunSet). mem a j && mem x j) e

  pub minus_row : ((j : ℕ) → mem s j ≡ (mem a j && not (mem t j))) → Narrowed (λ j. not (mem v j)) a s
  minus_row h j l = h j ∙ ap (λ (x : RunSet). mem a j && not (mem x j)) e

  pub upward_row : (up : RunSet) → ((j : ℕ) → j < 128 → mem up j ≡ any_up_to j (mem t)) → ((j : ℕ) → mem s j ≡ (mem a j && mem up j))
      → Narrowed (λ j. any_up_to j (mem v)) a s
  upward_row up g h j l = h j ∙ ap (λ (x : Bool). mem a j && x) (g j l ∙ ap (λ (x : RunSet). any_up_to j (mem x)) e)

pub picked_row : (s v : RunSet) (b : Bool) (k : ℕ) (a : RunSet) → b ≡ mem v k → b ≡ true → s ≡ a → Narrowed (λ _. mem v k) a s
picked_row s v b k a e t q j l = ap (λ (x : RunSet). mem x j) q ∙ (sym (and-true (mem a j)) ∙ ap (λ (x : Bool). mem a j && x) (sym t ∙ e))

pub dropped_row : (s v : RunSet) (b : Bool) (k : ℕ) (a : RunSet) → b ≡ mem v k → b ≡ false → ((j : ℕ) → mem s j ≡ false) → Narrowed (λ _. mem v k) a s
dropped_row s v b k a e f z j l = z j ∙ (sym (and-false (mem a j)) ∙ ap (λ (x : Bool). mem a j && x) (sym f ∙ e))

pub narrowed_as : (p q : ℕ → Bool) (a s : RunSet) → Narrowed p a s → ((j : ℕ) → j < 128 → p j ≡ q j) → Narrowed q a s
narrowed_as p q a s h e j l = h j l ∙ ap (λ (x : Bool). mem a j && x) (e j l)

-- ── the moments that are left for a run ──
pub left_kept : (dom got keep above s : RunSet) (b : Bool) (r : ℕ) → b ≡ mem keep r → b ≡ true → ((j : ℕ) → mem above j ≡ (mem dom j && leb r j)) → ((j : ℕ) → mem s j ≡ (mem above j && not (mem got j))) → LeftOf dom got keep r s
left_kept dom got keep above s b r e t f g j =
    g j ∙ (ap (λ (x : Bool). x && not (mem got j)) (f j) ∙ ap (λ (x : Bool). x && ((mem dom j && leb r j) && not (mem got j))) (sym t ∙ e))

pub left_dropped : (dom got keep s : RunSet) (b : Bool) (r : ℕ) → b ≡ mem keep r → b ≡ false → ((j : ℕ) → mem s j ≡ false) → LeftOf dom got keep r s
left_dropped dom got keep s b r e t g j = g j ∙ ap (λ (x : Bool). x && ((mem dom j && leb r j) && not (mem got j))) (sym t ∙ e)

-- no moment is taken away at the start
pub start_row : (dom none keep s : RunSet) (k : ℕ) → ((j : ℕ) → mem none j ≡ false) → LeftOf dom none keep k s → StartOf dom keep k s
start_row dom none keep s k z h j =
    h j ∙ ap (λ (x : Bool). mem keep k && x) (ap (λ (x : Bool). (mem dom j && leb k j) && not x) (z j) ∙ and-true (mem dom j && leb k j))

-- ── what the rows have together ──
module _ (m : List ℕ) where
  -- s has what the rows below k have
  abbrev pub Together : RunSet → ℕ → Type 0
  Together s k = (j : ℕ) → mem s j ≡ any_below k (λ i. mem (row m i) j)

  pub together_more : (s t a : RunSet) (k : ℕ) → Together s k → a ≡ row m k → ((j : ℕ) → mem t j ≡ (mem s j || mem a j)) → Together t (k + 1)
  together_more s t a k h e g j = rw (add-one k) (g j ∙ ap₂ ◌||◌ (h j) (ap (λ (x : RunSet). mem x j) e))
