-- Slips: "run numbers, one for each "some", outermost first".
use Rattle.std.specs.Prelude.{ℕ, zero, suc, ◌<◌, ◌≡◌, ◌⊎◌, List, [], ◌∷◌, map, length}
use Rattle.lists.specs.Lists.{pad}
use Rattle.trace.specs.declared.RunNo.{RunNo}
use Rattle.trace.specs.Trace.{Trace}
use Rattle.relations.specs.Runs.{FinishedRun}
use Rattle.rules.specs.Limits.{max_nested}
use Rattle.rules.specs.Formula.{Formula}
use Rattle.logic.specs.Satisfies.{Binding, bind, Satisfies}
use Rattle.slip_form.specs.declared.Slip.{Slip}
use Rattle.slip_form.specs.Form.{SlipForm}

-- The runs of a slip stand for the variables of the chain, one each. Where two "some" of the chain bind the same
-- variable, "the innermost binds".
abbrev pub bind_each : Binding → List ℕ → List ℕ → Binding
bind_each ρ [] ks = ρ
bind_each ρ (v ∷ vs) [] = ρ
bind_each ρ (v ∷ vs) (k ∷ ks) = bind_each (bind ρ v k) vs ks

-- outside the chain no variable is used, so that it does not matter what one stands for there
abbrev pub unbound : Binding
unbound v = 0

-- the claim holds of each number of a list
unfoldable pub Each : (ℕ → Type 0) → List ℕ → Type 0
Each P [] = Unit {0}
Each P (k ∷ ks) = P k × Each P ks

-- as many runs as the chain has "some", and each of them finished
pub record Fits (t : Trace) (f : Formula) (s : SlipForm f) (ks : List ℕ) : Type 0 where
  pub one_each : length ks ≡ length s.variables
  pub finished : Each (FinishedRun t) ks

-- "passes a slip if and only if all its runs are finished and the inner part is true of them"
pub record Passes (t : Trace) (f : Formula) (s : SlipForm f) (ks : List ℕ) : Type 0 where
  pub fits : Fits t f s ks
  pub true_of : Satisfies t (bind_each unbound s.variables ks) s.part

-- "in order of run numbers, outermost compared first"
unfoldable pub Before : List ℕ → List ℕ → Type 0
Before [] ks = ⊥
Before (j ∷ js) [] = ⊥
Before (j ∷ js) (k ∷ ks) = (j < k) ⊎ ((j ≡ k) × Before js ks)

-- ── the places of a slip ──
abbrev pub run_no : ℕ → RunNo
run_no k = record { 0 = k }

-- the first n numbers of the places; past the last place it is 0
abbrev pub numbers : ℕ → List RunNo → List ℕ
numbers zero rs = []
numbers (suc n) [] = 0 ∷ numbers n []
numbers (suc n) (r ∷ rs) = r.0 ∷ numbers n rs

-- the run numbers of a slip: as many as its count says, so that its other places have no part
abbrev pub slip_runs : Slip → List ℕ
slip_runs x = numbers x.count x.run

-- the slip of these run numbers; unused places are 0
abbrev pub slip_of : List ℕ → Slip
slip_of ks = record { count = length ks; run = pad (run_no 0) max_nested (map run_no ks) }

-- "ours is the first in order of run numbers": x passes, with unused places 0, and no slip before it does
pub record FirstSlip (t : Trace) (f : Formula) (s : SlipForm f) (x : Slip) : Type 0 where
  pub passes : Passes t f s (slip_runs x)
  pub unused : x ≡ slip_of (slip_runs x)
  pub earliest : (js : List ℕ) → Before js (slip_runs x) → Passes t f s js → ⊥
