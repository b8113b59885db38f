-- How the code works, not what it means.
-- Runs that may satisfy a formula, while some variables are left open.
use Rattle.std.specs.Prelude.{ℕ, ◌<◌, ◌≡◌, Bool, true, false, ◌||◌, eqb}
use Rattle.lists.specs.Limits.{max_runs}
use Rattle.sets.specs.Sets.{bit, mem}
use Rattle.sets.specs.declared.RunSet.{RunSet}
use Rattle.rules.specs.Formula.{Formula}
use Rattle.logic.specs.Satisfies.{Binding}
use Rattle.logic.specs.Model.{Model}
use Rattle.row_table.specs.Truth.{truth, at}

-- r lies inside dom, and keeps each run j of dom for which f is true at some moment, whatever the variables in `any` stand for
pub record Keeps (M : Model) (ρ : Binding) (f : Formula) (any : ℕ → Bool) (dom r : RunSet) : Type 0 where
  pub within : (j : ℕ) → j < max_runs → mem r j ≡ true → mem dom j ≡ true
  pub keeps : (j m : ℕ) (σ : Binding) → j < max_runs → mem dom j ≡ true → ((v : ℕ) → any v ≡ false → σ v ≡ at ρ j v) → truth M f σ m ≡ true → mem r j ≡ true

-- ── masks: bit v for variable v ──
-- no variable is in both masks
abbrev pub NoneShared : ℕ → ℕ → Type 0
NoneShared a b = (v : ℕ) → bit a v ≡ true → bit b v ≡ false

-- r is mask b with variable v
abbrev pub Marked : ℕ → ℕ → ℕ → Type 0
Marked b v r = (w : ℕ) → bit r w ≡ (bit b w || eqb v w)
