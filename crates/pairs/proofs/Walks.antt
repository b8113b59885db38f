-- The two walks over the pairs of a table's runs, byte by byte: down the columns, and along the rows. Both are right in any layout.
use Prim.Native.Nat.{ℕ, ◌+◌, ◌<◌, ◌≤◌}
use mathlib.Core.Path.{◌≡◌, refl, subst}
use mathlib.Core.Logic.{inl, inr}
use mathlib.Core.List.{List}
use native.Mathlib.Omega.{arith}
use lib.ListN.{length, get_or, set}
use Rattle.lists.specs.Limits.{max_runs}
use Rattle.lists.proofs.Cases.{either_eq}
use Rattle.trace.specs.declared.RunTable.{RunTable}
use Rattle.trace.specs.Trace.{no_run, begin_line, end_line}
use Rattle.trace.specs.Steps.{held}
use Rattle.pairs.specs.declared.Layout.{Layout}
use Rattle.pairs.specs.Layout.{work_size, place}
use Rattle.pairs.specs.Pairs.{pair_byte}
use Rattle.pairs.specs.Code.{lines_set, Stored, Rows, Columns}
use Rattle.pairs.proofs.Places.{places}
use Rattle.pairs.proofs.Pairs.{by_lines, pair_held}
use Rattle.pairs.proofs.Stored.{stored_none, stored_more, stored_then}

-- run z with the first k runs
abbrev pub Column : ℕ → ℕ → ℕ → ℕ → Type 0
Column z k a b = (b ≡ z) × (a < k)

-- run z with the runs after it that stand before run k
abbrev pub Row : ℕ → ℕ → ℕ → ℕ → Type 0
Row z k a b = (a ≡ z) × (b < k)

module _ (lay : Layout) (f : ℕ → ℕ → ℕ) where
  -- ── nothing yet ──
  pub column_none : (z : ℕ) (w : List ℕ) → Stored (place lay) f (Column z 0) w w
  column_none z w = stored_none (place lay) f (Column z 0) w (λ a b h c. absurd (omega (arith, c.1)))

  pub row_none : (z : ℕ) (w : List ℕ) → Stored (place lay) f (Row z (z + 1)) w w
  row_none z w = stored_none (place lay) f (Row z (z + 1)) w (λ a b h c. absurd (omega (arith, c.0, c.1)))

  pub columns_none : (s : ℕ) (w : List ℕ) → Stored (place lay) f (Columns s s) w w
  columns_none s w = stored_none (place lay) f (Columns s s) w (λ a b h c. absurd (omega (arith, c.0, c.1)))

  pub rows_none : (s n : ℕ) (w : List ℕ) → Stored (place lay) f (Rows s s n) w w
  rows_none s n w = stored_none (place lay) f (Rows s s n) w (λ a b h c. absurd (omega (arith, c.0, c.1)))

  -- ── a column or a row is done, and the next one is up ──
  pub column_done : (s z k : ℕ) (w₀ w₁ w : List ℕ) → s ≤ z → k ≤ z → z ≤ k → Stored (place lay) f (Columns s z) w₀ w₁ → Stored (place lay) f (Column z k) w₁ w
      → Stored (place lay) f (Columns s (z + 1)) w₀ w
  column_done s z k w₀ w₁ w h i j =
      stored_then (place lay) f (work_size lay) (places lay) (Columns s z) (Column z k) (Columns s (z + 1)) w₀ w₁ w
      (λ a b c. (c.0, omega (arith, c.1)))
      (λ a b c. (omega (arith, c.0), omega (arith, c.0)))
      (λ a b l c. either_eq b z
      (λ e. inl (e, omega arith))
      (λ n. inr ((c.0, omega (arith, c.1)), (λ q. n q.0))))

  pub row_done : (s z k n : ℕ) (w₀ w₁ w : List ℕ) → s ≤ z → k ≤ n → n ≤ k → Stored (place lay) f (Rows s z n) w₀ w₁ → Stored (place lay) f (Row z k) w₁ w
      → Stored (place lay) f (Rows s (z + 1) n) w₀ w
  row_done s z k n w₀ w₁ w h i j =
      stored_then (place lay) f (work_size lay) (places lay) (Rows s z n) (Row z k) (Rows s (z + 1) n) w₀ w₁ w
      (λ a b c. (c.0, omega (arith, c.1), c.2))
      (λ a b c. (omega (arith, c.0), omega (arith, c.0), omega (arith, c.1)))
      (λ a b l c. either_eq a z
      (λ e. inl (e, omega (arith, c.2)))
      (λ m. inr ((c.0, omega (arith, c.1), c.2), (λ q. m q.0))))

  -- ── all of them ──
  pub columns_all : (s z e : ℕ) (w₀ w : List ℕ) → z ≤ e → e ≤ z → Stored (place lay) f (Columns s z) w₀ w → Stored (place lay) f (Columns s e) w₀ w
  columns_all s z e w₀ w h i = let q : z ≡ e = omega arith in subst (λ (x : ℕ). Stored (place lay) f (Columns s x) w₀ w) q

  pub rows_all : (s z e n : ℕ) (w₀ w : List ℕ) → z ≤ e → e ≤ z → Stored (place lay) f (Rows s z n) w₀ w → Stored (place lay) f (Rows s e n) w₀ w
  rows_all s z e n w₀ w h i = let q : z ≡ e = omega arith in subst (λ (x : ℕ). Stored (place lay) f (Rows s x n) w₀ w) q

-- ── one byte more, of two runs of a table ──
module _ (lay : Layout) (t : RunTable) (full : length t.list ≡ max_runs) (few : t.count ≤ max_runs) (w₀ w : List ℕ) (long : work_size lay ≤ length w) (z k v p : ℕ) where
  pub column_more : (e : ℕ) → z < e → e ≤ t.count → k < z → p ≡ place lay k z
      → v ≡ lines_set (end_line (get_or t.list k no_run)) (begin_line (get_or t.list z no_run)) (end_line (get_or t.list z no_run))
      → Stored (place lay) (pair_byte (held t)) (Column z k) w₀ w → Stored (place lay) (pair_byte (held t)) (Column z (k + 1)) w₀ (set w p v)
  column_more to g h i q e s =
      rw q
      (stored_more (place lay) (pair_byte (held t)) (work_size lay) (places lay) (Column z k) (Column z (k + 1)) w₀ w k z v long i (omega arith)
      (pair_held t full few k z v i (omega arith) (by_lines (get_or t.list k no_run) (get_or t.list z no_run) v e))
      (λ a b c. (c.0, omega (arith, c.1)))
      (refl, omega arith)
      (λ a b c n. (c.0, less a c.1 (λ j. n (j, c.0)))) s)
    where
      less : (a : ℕ) → a < k + 1 → (a ≡ k → ⊥) → a < k
      less a i n = omega arith

  pub row_more : k < t.count → z < k → p ≡ place lay z k
      → v ≡ lines_set (end_line (get_or t.list z no_run)) (begin_line (get_or t.list k no_run)) (end_line (get_or t.list k no_run))
      → Stored (place lay) (pair_byte (held t)) (Row z k) w₀ w → Stored (place lay) (pair_byte (held t)) (Row z (k + 1)) w₀ (set w p v)
  row_more h i q e s =
      rw q
      (stored_more (place lay) (pair_byte (held t)) (work_size lay) (places lay) (Row z k) (Row z (k + 1)) w₀ w z k v long i (omega arith)
      (pair_held t full few z k v i h (by_lines (get_or t.list z no_run) (get_or t.list k no_run) v e))
      (λ a b c. (c.0, omega (arith, c.1)))
      (refl, omega arith)
      (λ a b c n. (c.0, less b c.1 (λ j. n (c.0, j)))) s)
    where
      less : (b : ℕ) → b < k + 1 → (b ≡ k → ⊥) → b < k
      less b i n = omega arith
