-- The rows are made from positions; the pair bytes of the work area say the same.
use Prim.Native.Nat.{ℕ, zero, suc, ◌+◌, ◌*◌, ◌<◌}
use mathlib.Core.Path.{◌≡◌, ap, sym, ◌∙◌}
use mathlib.Core.List.{List}
use native.Mathlib.Omega.{arith}
use lib.Dec.{eqb}
use lib.ListN.{get_or}
use Rattle.sets.specs.Sets.{mem}
use Rattle.trace.specs.Trace.{Trace, Accepted}
use Rattle.pairs.specs.declared.Layout.{Layout}
use Rattle.pairs.specs.Layout.{place}
use Rattle.pairs.specs.Pairs.{pair_byte, work_of}
use Rattle.pairs.proofs.Work.{work_pair}
use Rattle.logic.proofs.PairSays.{before_byte, overlaps_byte, includes_byte}
use Rattle.set_table.specs.Rows.{row}
use Rattle.row_table.specs.Rows.{pair_of, RowsOf}
use Rattle.rows.specs.RankModel.{rank_run, rank_model}

module _ (log : List ℕ) (t : Trace) (a : Accepted log t) (i j : ℕ) where
  by_byte : (k : ℕ) → k < 3 → pair_of (rank_model t) k i j ≡ eqb (pair_byte t.runs (rank_run t i) (rank_run t j)) (5 + k)
  unfolding pair_of
  by_byte zero h = before_byte log t a (rank_run t i) (rank_run t j)
  by_byte (suc zero) h = overlaps_byte log t a (rank_run t i) (rank_run t j)
  by_byte (suc (suc zero)) h = includes_byte log t a (rank_run t i) (rank_run t j)
  by_byte (suc (suc (suc k))) h = absurd (omega arith)

  -- THE LAW: row 128 k + i has rank j exactly if the pair byte of the runs of ranks i and j is 5 + k
  pub rows_are_pair_bytes : (table file : List ℕ) (count : ℕ) → RowsOf table file count (rank_model t) → (k : ℕ) → k < 3 → i < 128 → j < 128
      → mem (row table (128 * k + i)) j ≡ eqb (pair_byte t.runs (rank_run t i) (rank_run t j)) (5 + k)
  rows_are_pair_bytes table file count rows k h l m = rows.first_given k i j (omega arith) l m ∙ by_byte k h

  -- and so the byte that a work area of these runs has for the two, in either layout, where the first begins first
  pub rows_are_kept_bytes : (lay : Layout) (w : List ℕ) → w ≡ work_of lay t w → rank_run t i < rank_run t j → rank_run t j < 128
      → (table file : List ℕ) (count : ℕ) → RowsOf table file count (rank_model t) → (k : ℕ) → k < 3 → i < 128 → j < 128
      → mem (row table (128 * k + i)) j ≡ eqb (get_or w (place lay (rank_run t i) (rank_run t j)) 0) (5 + k)
  rows_are_kept_bytes lay w e a b table file count rows k h l m =
      rows_are_pair_bytes table file count rows k h l m ∙ ap (λ (n : ℕ). eqb n (5 + k)) (sym (work_pair lay t w w e (rank_run t i) (rank_run t j) a b))
