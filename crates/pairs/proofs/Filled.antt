-- The bytes of all pairs of a record's runs, stored into cleared bytes: along the rows or down the columns.
use Prim.Native.Nat.{ℕ, ◌<◌, ◌≤◌}
use mathlib.Core.Path.{◌≡◌, sym, ◌∙◌}
use mathlib.Core.Logic.{inl, inr}
use mathlib.Core.List.{List, []}
use native.Mathlib.Omega.{arith}
use lib.ListN.{length}
use Rattle.lists.specs.Limits.{max_runs}
use Rattle.lists.proofs.Cases.{either_lt}
use Rattle.trace.specs.declared.Record.{Record}
use Rattle.trace.specs.Trace.{no_trace}
use Rattle.trace.specs.Steps.{held}
use Rattle.pairs.specs.declared.Layout.{Layout}
use Rattle.pairs.specs.Layout.{work_size, place}
use Rattle.pairs.specs.Pairs.{pair_byte, work_of, held_trace}
use Rattle.pairs.specs.Code.{Stored, Rows, Columns}
use Rattle.pairs.proofs.Places.{places}
use Rattle.pairs.proofs.Area.{stored_area}
use Rattle.pairs.proofs.Pairs.{pair_late, length_held}

module _ (lay : Layout) (r : Record) (full : length r.runs.list ≡ max_runs) (few : r.runs.count ≤ max_runs) (w w₁ w₀ : List ℕ) (clear : w₁ ≡ work_of lay no_trace w₀) where
  -- whichever words choose the pairs of the runs
  filled : (Chosen : ℕ → ℕ → Type 0) → ((a b : ℕ) → a < b → b < r.runs.count → Chosen a b) → ((a b : ℕ) → Chosen a b → b < r.runs.count)
      → Stored (place lay) (pair_byte (held r.runs)) Chosen w₁ w → w ≡ work_of lay (held_trace r) w₀
  filled Chosen all only s =
      stored_area (work_size lay) (place lay) (places lay) (pair_byte (held r.runs)) (pair_byte []) Chosen w₀ w₁ w clear s
      (λ a b h k. either_lt b r.runs.count
      (λ l. inl (all a b h l))
      (λ l. inr (
        (λ c. absurd (omega (arith, only a b c))),
        pair_late [] a b (omega arith) ∙ sym (pair_late (held r.runs) a b (omega (arith, length_held r.runs full few))),
      )))

  pub filled_rows : Stored (place lay) (pair_byte (held r.runs)) (Rows 0 r.runs.count r.runs.count) w₁ w → w ≡ work_of lay (held_trace r) w₀
  filled_rows = filled (Rows 0 r.runs.count r.runs.count) (λ a b h k. (omega arith, omega arith, k)) (λ a b c. c.2)

  pub filled_columns : Stored (place lay) (pair_byte (held r.runs)) (Columns 0 r.runs.count) w₁ w → w ≡ work_of lay (held_trace r) w₀
  filled_columns = filled (Columns 0 r.runs.count) (λ a b h k. (omega arith, k)) (λ a b c. c.1)
