-- The root of a taken rule: what the evaluator needs there, from the tables of shapes, and what its answer says of a closed formula.
use Prim.Native.Nat.{ℕ, zero, suc, ◌+◌, ◌*◌, ◌-◌, ◌<◌, ◌≤◌}
use mathlib.Core.Path.{◌≡◌, refl, sym, ap, ap₂, ◌∙◌}
use mathlib.Core.Bool.{Bool, true, false, ◌&&◌}
use mathlib.Core.List.{List, [], ◌∷◌}
use native.Mathlib.Omega.{arith}
use lib.Dec.{leb, ltb}
use lib.ListN.{length, replicate}
use borrow.Author.Tests.{lt-ltb, le-leb}
use Rattle.sets.specs.Sets.{mem}
use Rattle.sets.specs.declared.RunSet.{RunSet}
use Rattle.rules.specs.declared.Rule.{Rule}
use Rattle.rules.specs.Formula.{Formula, no_scope, scoped}
use Rattle.rules.specs.Rules.{Taken}
use Rattle.logic.specs.Satisfies.{Binding}
use Rattle.logic.specs.Model.{Model}
use Rattle.logic.proofs.Closed.{eval_closed}
use Rattle.shape.specs.Tables.{Height, FreeMask, TableOf}
use Rattle.row_table.specs.declared.Bindings.{Bindings}
use Rattle.row_table.specs.Truth.{at_moment, truth, at, TrueAt}
use Rattle.moments.specs.Shape.{Heights, Frees}
use Rattle.row_table.specs.Rows.{table_words, pair_of, RowsOf}
use Rattle.row_table.specs.Ranks.{rank, InRange}
use Rattle.moments.specs.Ready.{Ready}
use Rattle.rank_tables.proofs.Tables.{new_row}
use Rattle.timeline.specs.Root.{no_runs, Shaped, TrueAmong}

-- ── the tables of shapes ──
pub heights_at_root : (file : List ℕ) (p count n : ℕ) (heights : List ℕ) → TableOf Height file p count heights → n < count → n < length heights → Heights file p n heights
heights_at_root file p count n heights t l long = record { long = long; high = λ i h. t.nodes i (omega arith) }

pub frees_at_root : (file : List ℕ) (p count n : ℕ) (frees : List ℕ) → TableOf FreeMask file p count frees → n < count → n < length frees → Frees file p n frees
frees_at_root file p count n frees t l long = record { long = long; free = λ i h v e. t.nodes i (omega arith) v ∙ e }

-- ── the evaluator at the root ──
-- with every variable at rank 0
abbrev pub from_zero : Bindings
from_zero = record { run = rank 0 ∷ rank 0 ∷ rank 0 ∷ rank 0 ∷ [] }

pub zeros_in_range : InRange from_zero
zeros_in_range zero = omega arith
zeros_in_range (suc zero) = omega arith
zeros_in_range (suc (suc zero)) = omega arith
zeros_in_range (suc (suc (suc zero))) = omega arith
zeros_in_range (suc (suc (suc (suc v)))) = omega arith

pub root_ready : (file : List ℕ) (x : Rule) (heights frees table : List ℕ) (runs : ℕ) → Taken file x → Shaped file x heights frees
    → table_words ≤ length table → runs ≤ 128 → Ready file x.nodes heights frees table runs (x.count - 1) from_zero
root_ready file x heights frees table runs t s long few =
    let some = t.nodes_some in
    let most = t.nodes_few in
    record {
      good = t.nodes_good;
      heights_are = heights_at_root file x.nodes x.count (x.count - 1) heights s.heights_are (omega arith) (omega (arith, s.heights_long));
      frees_are = frees_at_root file x.nodes x.count (x.count - 1) frees s.frees_are (omega arith) (omega (arith, s.frees_long));
      table_long = long;
      labels_few = omega (arith, t.labels, t.labels_few);
      runs_few = few;
      in_range_lem = zeros_in_range;
    }

-- of a closed formula the moments are the same for every binding
pub true_among : (M : Model) (f : Formula) (ρ : Binding) (low n : ℕ) (all dom s : RunSet) → scoped f no_scope ≡ true → n ≤ 128
    → ((j : ℕ) → mem all j ≡ ltb j n) → ((j : ℕ) → mem dom j ≡ (mem all j && leb low j)) → TrueAt M f ρ dom s → TrueAmong M f low n s
true_among M f ρ low n all dom s closed few below from h j k l σ =
    let in-dom : mem dom j ≡ true = from j ∙ ap₂ ◌&&◌ (below j ∙ lt-ltb j n l) (le-leb low j k) in
    h j (omega arith) ∙ (ap (λ (b : Bool). b && truth M f (at ρ j) j) in-dom ∙ eval_closed (at_moment M j) f (at ρ j) σ closed)

-- ── a table of zeros ──
none_paired : (k i j : ℕ) → pair_of no_runs k i j ≡ false
unfolding pair_of
none_paired k i j = refl

pub zero_rows : (n : ℕ) (file : List ℕ) → RowsOf (replicate n 0) file 0 no_runs
zero_rows n file =
    record {
      runs_are = refl;
      first_given = λ k i j l hi hj. new_row n (128 * k + i) j ∙ sym (none_paired k i j);
      second_given_lem = λ k i j l hi hj. new_row n (512 + 128 * k + j) i ∙ sym (none_paired k i j);
      labels_are = λ p i l h. new_row n (1024 + p) i;
      with_itself = λ k i l h. new_row n (1088 + k) i ∙ sym (none_paired k i i);
    }
