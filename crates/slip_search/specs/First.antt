-- How the code works, not what it means.
-- The first slip, level by level: each run is the first that leaves the rest of the chain true. And whether a chain is
-- true of given runs.
use Rattle.std.specs.Prelude.{ℕ, ◌+◌, ◌<◌, ◌≤◌, ◌≡◌, Bool, true, false, ◌&&◌, List, [], ◌∷◌, Option, Some, None, ltb, get_or}
use Rattle.lists.specs.Limits.{max_runs}
use Rattle.rules.specs.Formula.{Formula, both, neg, exists, has, pair}
use Rattle.logic.specs.Satisfies.{Binding, bind}
use Rattle.logic.specs.Model.{Model, eval}
use Rattle.order.specs.declared.Order.{Order}
use Rattle.row_table.specs.Truth.{truth}
use Rattle.row_table.specs.Rows.{RowsOf}
use Rattle.slip_form.specs.declared.Slip.{Slip}
use Rattle.slip_form.specs.Slips.{Each, slip_runs, slip_of}
use Rattle.slip_form.specs.Chain.{some?}

-- what is asked of runs: which may be taken, what a variable is bound to for a run, and whether a formula is true
pub record Asked : Type 0 where
  pub may : ℕ → Bool
  pub value : ℕ → ℕ
  pub holds : Formula → Binding → Bool

-- run k serves as variable v of g
abbrev pub serves : Asked → Formula → Binding → ℕ → ℕ → Bool
serves q g ρ v k = q.may k && q.holds g (bind ρ v (q.value k))

-- k is the first below n that passes; n where none does
pub record Least (p : ℕ → Bool) (n k : ℕ) : Type 0 where
  pub within : k ≤ n
  pub before : (j : ℕ) → j < k → p j ≡ false
  pub found : k < n → p k ≡ true

-- the first number below n that passes, if one does
abbrev pub FirstOf : (ℕ → Bool) → ℕ → Option ℕ → Type 0
FirstOf p n None = Least p n n
FirstOf p n (Some k) = (k < n) × Least p n k

-- at each "some" the first run that serves
unfoldable pub First : Asked → Binding → Formula → List ℕ → Type 0
First q ρ f [] = (some? f ≡ false) × (q.holds f ρ ≡ true)
First q ρ f (k ∷ ks) =
    (v : ℕ) × (g : Formula) × (f ≡ exists v g) × (k < max_runs) × Least (serves q g ρ v) max_runs k
    × First q (bind ρ v (q.value k)) g ks

-- whether a chain is true of given runs, outermost first
unfoldable pub true_for : Asked → Binding → Formula → List ℕ → Bool
true_for q ρ f [] = q.holds f ρ
true_for q ρ (both f g) (k ∷ ks) = q.holds (both f g) ρ
true_for q ρ (neg f) (k ∷ ks) = q.holds (neg f) ρ
true_for q ρ (exists v f) (k ∷ ks) = true_for q (bind ρ v (q.value k)) f ks
true_for q ρ (has v l) (k ∷ ks) = q.holds (has v l) ρ
true_for q ρ (pair p v w) (k ∷ ks) = q.holds (pair p v w) ρ

-- over the runs of a trace, by their numbers; over ranks, at the last moment m
abbrev pub of_runs : Model → Asked
of_runs M = record { may = λ k. ltb k M.runs && M.done k; value = λ k. k; holds = λ f ρ. eval M ρ f }

abbrev pub of_ranks : Model → List ℕ → ℕ → ℕ → Asked
of_ranks M ranks runs m =
    record { may = λ k. ltb (get_or ranks k 0) runs; value = λ k. get_or ranks k 0; holds = λ f ρ. truth M f ρ m }

-- the rank of each run: its place in the order in which runs finish, the number of all runs where it has none
pub record RankFor (o : Order) (n k r : ℕ) : Type 0 where
  pub ranked : r < max_runs → (r < n) × (get_or o.run r 0 ≡ k)
  pub unfinished : r ≡ max_runs → (i : ℕ) → i < n → get_or o.run i 0 ≡ k → ⊥
  pub range : r ≤ max_runs

abbrev pub RanksOf : Order → List ℕ → Type 0
RanksOf o ranks = (k : ℕ) → k < max_runs → RankFor o o.count k (get_or ranks k 0)

-- the rows are those of the model's runs, of which m is the last moment, and each of them has its place among the ranks
pub record AsksOf (table file ranks : List ℕ) (runs m : ℕ) (M : Model) : Type 0 where
  pub rows : RowsOf table file runs M
  pub last : runs ≡ m + 1
  pub named : (i : ℕ) → i < runs → (k : ℕ) × (k < max_runs) × (get_or ranks k 0 ≡ i)

-- what the search answers
pub record Seeks (q : Asked) (ρ : Binding) (f : Formula) (s : Option Slip) : Type 0 where
  pub first : (x : Slip) → s ≡ Some x → First q ρ f (slip_runs x)
  pub none : s ≡ None → q.holds f ρ ≡ false

-- the search's slip has its unused places 0
abbrev pub Tidy : Slip → Type 0
Tidy x = x ≡ slip_of (slip_runs x)

-- a slip of n runs, each of them with a rank
pub record Whole (x : Slip) (n : ℕ) (ranks : List ℕ) (runs : ℕ) : Type 0 where
  pub count : x.count ≡ n
  pub ranked : Each (λ k. (k < max_runs) × (get_or ranks k 0 < runs)) (slip_runs x)
