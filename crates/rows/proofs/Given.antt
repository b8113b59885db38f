-- The tests by sets are the values of the rows.
use Prim.Native.Nat.{ℕ, ◌+◌, ◌-◌, ◌/◌, ◌%◌, ◌<◌, ◌≤◌}
use mathlib.Core.Path.{◌≡◌, refl, sym, ap, ap₂, ◌∙◌}
use mathlib.Core.Bool.{Bool, false, not, ◌&&◌, and-false}
use mathlib.Core.List.{List}
use native.Mathlib.Omega.{arith}
use borrow.Author.Tests.{lt-ltb, le-ltb, eq-eqb, ne_eqb}
use lib.Dec.{eqb, ltb}
use lib.ListN.{get_or}
use Rattle.lists.proofs.Cases.{either_lt, either_eq}
use Rattle.sets.specs.Sets.{mem}
use Rattle.sets.specs.declared.RunSet.{RunSet}
use Rattle.set_table.specs.Rows.{row}
use Rattle.rows.specs.Values.{seconds_test, firsts_test, listed_test, holds, pair_value, given_value, listed_value, row_value, Wanted, Ranks, Tables}
use Rattle.rows.proofs.Tests.{less_same, minus_same}
use Rattle.rows.proofs.Between.{before_first, overlaps_first, includes_first, before_second, overlaps_second, includes_second, label_first, label_second}

-- a number below 3
which : {C : Type 0} (k : ℕ) → k < 3 → (k ≡ 0 → C) → (k ≡ 1 → C) → (k ≡ 2 → C) → C
which k l a b c = either_eq k 0 a (λ n. either_eq k 1 b (λ m. c (omega arith)))

module _ (start finish number begun ended labelled : List ℕ) (R : Ranks start finish number) (T : Tables start finish number begun ended labelled) where
  -- ── a rank that is finished ──
  module _ (k i j : ℕ) (low-k : k < 3) (low-i : i < 128) (done : 0 < get_or finish i 0) (low-j : j < 128) where
    abbrev s : ℕ
    s = get_or start i 0

    abbrev f : ℕ
    f = get_or finish i 0

    abbrev t : ℕ
    t = get_or start j 0

    abbrev g : ℕ
    g = get_or finish j 0

    begins : s < f
    begins = R.forward i low-i done

    low_f : f ≤ 256
    low_f = R.finishes.low i low-i

    begun_at : (l : ℕ) → l < 258 → mem (row begun l) j ≡ ltb t l
    begun_at l h = T.begun_are l j h low-j

    ended_at_lem : (l : ℕ) → l < 258 → mem (row ended l) j ≡ ltb g l
    ended_at_lem l h = T.ended_are l j h low-j

    seconds_hold : seconds_test k s f begun ended j ≡ (ltb 0 g && holds k s f t g)
    unfolding seconds_test
    seconds_hold =
        let b = begins in
        let m = low_f in
        which k low-k
        (λ e. rw e (less_same (lt-ltb j 128 low-j) (begun_at (f + 1) (omega arith)) (ended_at_lem 1 (omega arith)) ∙ before_first s f t g b (R.forward j low-j)))
        (λ e.
        rw e
        (less_same (begun_at f (omega arith)) (begun_at (s + 1) (omega arith)) (ended_at_lem (f + 1) (omega arith)) ∙ overlaps_first s f t g b (R.forward j low-j)))
        (λ e.
        rw e (less_same (ended_at_lem f (omega arith)) (begun_at (s + 1) (omega arith)) (ended_at_lem 1 (omega arith)) ∙ includes_first s f t g b (R.forward j low-j)))

    firsts_hold : firsts_test k s f begun ended j ≡ (ltb 0 g && holds k t g s f)
    unfolding firsts_test
    firsts_hold =
        let b = begins in
        let m = low_f in
        which k low-k
        (λ e. rw e (minus_same (ended_at_lem s (omega arith)) (ended_at_lem 1 (omega arith)) ∙ before_second s f t g b (R.forward j low-j)))
        (λ e.
        rw e
        (minus_same (ap₂ ◌&&◌ (begun_at s (omega arith)) (ended_at_lem f (omega arith))) (ended_at_lem (s + 1) (omega arith)) ∙ overlaps_second s f t g b (R.forward j low-j)))
        (λ e. rw e (minus_same (begun_at s (omega arith)) (ended_at_lem (f + 1) (omega arith)) ∙ includes_second s f t g b (R.forward j low-j)))

  -- ── a row with rank i given ──
  module _ (q i : ℕ) (low-i : i < 128) (r : RunSet) where
    abbrev Row : Type 0
    Row = (j : ℕ) → j < 128 → mem r j ≡ given_value start finish number q i j

    pub given_same : q % 4 ≡ 3 → ((j : ℕ) → mem r j ≡ (not (eqb (get_or number i 0) 0) && mem (row labelled (get_or number i 0)) j)) → Row
    unfolding given_value pair_value
    given_same e d j h =
        let n = get_or number i 0 in
        d j
        ∙ ap (λ (x : Bool). not (eqb n 0) && x) (T.labelled_are n j (R.numbers.low i low-i) h)
        ∙ either_lt q 4 (λ l. rw (lt-ltb q 4 l, eq-eqb (q % 4) 3 e) (label_first (get_or number j 0) n))
        (λ l. rw (le-ltb q 4 l, eq-eqb (q % 4) 3 e) (label_second (get_or number j 0) n))

    pub given_open : (q % 4 ≡ 3 → ⊥) → get_or finish i 0 ≡ 0 → ((j : ℕ) → mem r j ≡ false) → Row
    unfolding given_value pair_value
    given_open n e d j h =
        either_lt q 4 (λ l. rw (lt-ltb q 4 l, ne_eqb (q % 4) 3 n, le-ltb 0 (get_or finish i 0) (omega arith)) (d j))
        (λ l. rw (le-ltb q 4 l, ne_eqb (q % 4) 3 n, le-ltb 0 (get_or finish i 0) (omega arith)) (d j ∙ sym (and-false (ltb 0 (get_or finish j 0)))))

    pub given_seconds : (q % 4 ≡ 3 → ⊥) → (get_or finish i 0 ≡ 0 → ⊥) → q < 4
        → ((j : ℕ) → mem r j ≡ seconds_test (q % 4) (get_or start i 0) (get_or finish i 0) begun ended j) → Row
    unfolding given_value pair_value
    given_seconds n m l d j h =
        rw (lt-ltb q 4 l, ne_eqb (q % 4) 3 n, lt-ltb 0 (get_or finish i 0) (omega arith)) (d j ∙ seconds_hold (q % 4) i j (omega arith) low-i (omega arith) h)

    pub given_firsts : (q % 4 ≡ 3 → ⊥) → (get_or finish i 0 ≡ 0 → ⊥) → 4 ≤ q
        → ((j : ℕ) → mem r j ≡ firsts_test (q % 4) (get_or start i 0) (get_or finish i 0) begun ended j) → Row
    unfolding given_value pair_value
    given_firsts n m l d j h =
        rw (le-ltb q 4 l, ne_eqb (q % 4) 3 n, lt-ltb 0 (get_or finish i 0) (omega arith)) (d j ∙ firsts_hold (q % 4) i j (omega arith) low-i (omega arith) h)

  -- ── the rows after them ──
  -- no rank is before, overlaps or includes itself
  pub pair_self : (k j : ℕ) → k < 3 → j < 128 → pair_value start finish number k j j ≡ false
  unfolding pair_value holds
  pair_self k j l h =
      let a = get_or start j 0 in
      let b = get_or finish j 0 in
      either_lt 0 b
      (λ d.
      let w : a < b = R.forward j h d in
      which k l (λ e. rw (e, lt-ltb 0 b d, le-ltb b a (omega arith)) refl) (λ e. rw (e, lt-ltb 0 b d, le-ltb a a (omega arith)) refl)
      (λ e. rw (e, lt-ltb 0 b d, le-ltb a a (omega arith)) refl))
      (λ d. rw (ne_eqb k 3 (λ e. omega arith), le-ltb 0 b d) refl)

  any_label_lem : (j : ℕ) → j < 128 → (ltb j 128 && not (mem (row labelled 0) j)) ≡ pair_value start finish number 3 j j
  unfolding pair_value
  any_label_lem j h =
      let n = get_or number j 0 in
      rw (lt-ltb j 128 h, eq-eqb n n refl) (ap not (T.labelled_are 0 j (omega arith) h))

  pub listed_value_lem : (wanted : List ℕ) (labels p : ℕ) → Wanted wanted labels → p < 68 → (j : ℕ) → j < 128
      → listed_test wanted labels labelled p j ≡ listed_value start finish number wanted labels p j
  unfolding listed_test listed_value
  listed_value_lem wanted labels p W low j h =
      let n = get_or number j 0 in
      let w = get_or wanted p 0 in
      either_eq p 67 (λ e. rw e (any_label_lem j h))
      (λ d.
      rw (ne_eqb p 67 d)
      (either_lt p labels
      (λ l.
      rw (lt-ltb p labels l, lt-ltb p 64 (omega (arith, W.few)))
      (ap (λ (x : Bool). not (eqb w 0) && x) (T.labelled_are w j (W.low p l) h) ∙ label_second n w))
      (λ l.
      rw (le-ltb p labels l)
      (either_lt p 64 (λ u. rw (lt-ltb p 64 u) refl) (λ u. rw (le-ltb p 64 u) (sym (pair_self (p - 64) j (omega arith) h)))))))

  -- ── all rows ──
  module _ (wanted : List ℕ) (labels r : ℕ) (s : RunSet) where
    pub row_given : r < 1024 → ((j : ℕ) → j < 128 → mem s j ≡ given_value start finish number (r / 128) (r % 128) j)
        → (j : ℕ) → j < 128 → mem s j ≡ row_value start finish number wanted labels r j
    unfolding row_value
    row_given l d j h = rw (lt-ltb r 1024 l) (d j h)

    pub row_listed : Wanted wanted labels → 1024 ≤ r → r < 1092 → ((j : ℕ) → mem s j ≡ listed_test wanted labels labelled (r - 1024) j)
        → (j : ℕ) → j < 128 → mem s j ≡ row_value start finish number wanted labels r j
    unfolding row_value
    row_listed W l u d j h = rw (le-ltb r 1024 l) (d j ∙ listed_value_lem wanted labels (r - 1024) W (omega arith) j h)
