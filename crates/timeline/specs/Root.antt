-- How the code works, not what it means.
-- What evaluating a rule for all moments needs and promises.
use Rattle.std.specs.Prelude.{ℕ, ◌<◌, ◌≤◌, ◌≡◌, Bool, true, false, List, length, get_or}
use Rattle.sets.specs.Sets.{mem}
use Rattle.sets.specs.declared.RunSet.{RunSet}
use Rattle.trace.specs.declared.RunTable.{RunTable}
use Rattle.trace.specs.Trace.{Trace, Accepted}
use Rattle.trace.specs.Record.{record_of}
use Rattle.rules.specs.declared.Rule.{Rule}
use Rattle.rules.specs.Limits.{max_nodes}
use Rattle.rules.specs.Formula.{Formula}
use Rattle.rules.specs.Parts.{label_count}
use Rattle.rules.specs.Labels.{label_bytes}
use Rattle.rules.specs.Rules.{formula_of}
use Rattle.logic.specs.Satisfies.{Binding}
use Rattle.logic.specs.Model.{Model}
use Rattle.logic.specs.Shown.{number_for}
use Rattle.order.specs.declared.Order.{Order}
use Rattle.order.specs.Order.{order_to}
use Rattle.order.specs.Marks.{OrderHeld}
use Rattle.shape.specs.Tables.{Height, FreeMask, TableOf}
use Rattle.row_table.specs.Truth.{truth}
use Rattle.rows.specs.RankModel.{rank_model}

-- "A run is finished once its end line is among the lines read": before the first end line there is none
abbrev pub no_runs : Model
no_runs = record { runs = 0; done = λ _. false; labelled = λ _ _. false; paired = λ _ _ _. false }

-- the tables of a rule's nodes: how many "some" lie one inside another in each, and which variables stand free in it
pub record Shaped (file : List ℕ) (x : Rule) (heights frees : List ℕ) : Type 0 where
  pub heights_are : TableOf Height file x.nodes x.count heights
  pub frees_are : TableOf FreeMask file x.nodes x.count frees
  pub heights_long : max_nodes ≤ length heights
  pub frees_long : max_nodes ≤ length frees

-- s has of the moments from low to below n those at which f is true, whatever the binding
abbrev pub TrueAmong : Model → Formula → ℕ → ℕ → RunSet → Type 0
TrueAmong M f low n s = (j : ℕ) → low ≤ j → j < n → (ρ : Binding) → mem s j ≡ truth M f ρ j

-- The same; where the search may stop, s need be right only up to the first moment at which f is false.
abbrev pub TrueUntil : Bool → Model → Formula → ℕ → ℕ → RunSet → Type 0
TrueUntil stop M f low n s =
    (j : ℕ) → low ≤ j → j < n → (stop ≡ true → (i : ℕ) → low ≤ i → i < j → mem s i ≡ true) → (ρ : Binding) → mem s j ≡ truth M f ρ j

-- how many of the runs a search goes by: all of them, unless it may stop
pub record SearchEnd (count : ℕ) (stop : Bool) (e : ℕ) : Type 0 where
  pub few : e ≤ count
  pub all : stop ≡ false → e ≡ count
  pub some : 0 < count → 0 < e

-- the numbers of a rule file's labels among those of a trace
abbrev pub WantedIn : Trace → List ℕ → List ℕ → Type 0
WantedIn u file wanted = (p : ℕ) → p < label_count file → get_or wanted p 0 ≡ number_for u.labels (label_bytes file p)

-- s has the moments from low on at which the rule is true of the runs of a record, in the order in which they finish
abbrev pub TrueOfRanks : Bool → List ℕ → Rule → List ℕ → RunTable → Order → ℕ → RunSet → Type 0
TrueOfRanks stop file x wanted t o low s =
    (log : List ℕ) (u : Trace) → Accepted log u → t ≡ (record_of u).runs → OrderHeld (order_to u.runs) u.lines o → WantedIn u file wanted
    → TrueUntil stop (rank_model u) (formula_of file x) low o.count s
