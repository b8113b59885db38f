-- What the two calls on slips answer, for every rule file, record and slip.
use Rattle.std.specs.Prelude.{ℕ, zero, suc, ◌≡◌, ◌↔◌, Bool, ◌&&◌, cond, List, [], ◌∷◌, eqb, ltb, length}
use Rattle.lists.specs.Lists.{all?}
use Rattle.lists.specs.Tells.{Tells}
use Rattle.trace.specs.declared.Record.{Record}
use Rattle.trace.specs.Trace.{Trace, Accepted}
use Rattle.trace.specs.Record.{record_of, Valid}
use Rattle.relations.specs.Runs.{finished?}
use Rattle.rules.specs.declared.Rule.{Rule}
use Rattle.std.specs.Prelude.{Option, Some, None, Result, Ok, Err, true, false}
use Rattle.refusals.specs.Refusal.{number, RefusedWith}
use Rattle.refusals.specs.declared.Refusal.{Refusal}
use Rattle.refusals.specs.declared.Refusal.TheVariants.{NoFinishedRun}
use Rattle.rules.specs.Formula.{Formula}
use Rattle.rules.specs.Rules.{rule_of, formula_of}
use Rattle.logic.specs.Satisfies.{Binding, bind, Satisfies}
use Rattle.logic.specs.Model.{Model, eval, model_of}
use Rattle.slip_form.specs.declared.Slip.{Slip}
use Rattle.slip_form.specs.Form.{some_of, SlipForm}
use Rattle.slip_form.specs.Slips.{bind_each, unbound, slip_runs, slip_of, Fits, Passes, FirstSlip}

-- what finding a slip answers: the first that passes, or that none does
abbrev pub Finding : Type 0
Finding = Result (Option Slip) Refusal

-- what reading one answers: whether it passes
abbrev pub Passing : Type 0
Passing = Result Bool Refusal

abbrev pub with_slip : Slip → Finding
with_slip x = Ok (Some x)

abbrev pub without_slip : Finding
without_slip = Ok None

-- ── the answers as they are computed ──
-- the first number below n that passes; n where none does
unfoldable pub least_below : ℕ → (ℕ → Bool) → ℕ
least_below zero p = zero
least_below (suc n) p = cond (p zero) zero (suc (least_below n (λ j. p (suc j))))

-- for each "some", outermost first, the first finished run that leaves the rest of the chain true
unfoldable pub first_runs : Model → Binding → List ℕ → Formula → List ℕ
first_runs m ρ [] g = []
first_runs m ρ (v ∷ vs) g =
    least_below m.runs (λ j. m.done j && eval m (bind ρ v j) (some_of vs g))
    ∷ first_runs m (bind ρ v (least_below m.runs (λ j. m.done j && eval m (bind ρ v j) (some_of vs g)))) vs g

unfoldable pub found_in : Trace → List ℕ → Formula → Finding
found_in t vs g =
    cond (eval (model_of t) unbound (some_of vs g))
    (with_slip (slip_of (first_runs (model_of t) unbound vs g)))
    without_slip

unfoldable pub fits? : Trace → List ℕ → List ℕ → Bool
fits? t vs ks = eqb (length ks) (length vs) && all? (λ k. ltb k (length t.runs) && finished? t k) ks

unfoldable pub passing_in : Trace → List ℕ → Formula → List ℕ → Passing
passing_in t vs g ks =
    cond (fits? t vs ks)
    (Ok (eval (model_of t) (bind_each unbound vs ks) g))
    (Err NoFinishedRun)

-- ── what an answer says ──
-- of the finder, after the lines that t stands for: a slip exactly if it is the first, "or "none"" exactly if none
-- passes
pub record FindsIn (t : Trace) (f : Formula) (s : SlipForm f) (a : Finding) : Type 0 where
  pub answer : a ≡ found_in t s.variables s.part
  pub slip : (x : Slip) → (a ≡ with_slip x) ↔ FirstSlip t f s x
  pub none : (a ≡ without_slip) ↔ ((ks : List ℕ) → Passes t f s ks → ⊥)

-- of the reader, for the runs of a slip: "22 for a wrong number of runs or a run not finished"
pub record ReadsIn (t : Trace) (f : Formula) (s : SlipForm f) (ks : List ℕ) (a : Passing) : Type 0 where
  pub answer : a ≡ passing_in t s.variables s.part ks
  pub passes : (a ≡ Ok true) ↔ Passes t f s ks
  pub does_not : (a ≡ Ok false)
      ↔ (Fits t f s ks × (Satisfies t (bind_each unbound s.variables ks) s.part → ⊥))
  pub refused : RefusedWith 22 a ↔ (Fits t f s ks → ⊥)

-- ── the order of refusals ──
-- "26 for a rule of another form, after 10"; then 21, "of the record alone"; otherwise what is said of every accepted
-- log that leaves the record. One of these is the case for every rule file and record.
pub record SlipCall (file : List ℕ) (r : Record) (refuses : ℕ → Type 0)
    (says : (t : Trace) (f : Formula) → SlipForm f → Type 0) : Type 0 where
  pub rule : (e : Refusal) → rule_of file ≡ Err e → refuses (number e)
  pub form : (x : Rule) → rule_of file ≡ Ok x → (k : Bool) × Tells k (SlipForm (formula_of file x))
  pub other_form : (x : Rule) → rule_of file ≡ Ok x → (SlipForm (formula_of file x) → ⊥) → refuses 26
  pub decided : (x : Rule) → rule_of file ≡ Ok x → SlipForm (formula_of file x)
      → (k : Bool) × Tells k (Valid r)
  pub no_record : (x : Rule) → rule_of file ≡ Ok x → SlipForm (formula_of file x) → (Valid r → ⊥) → refuses 21
  pub known : (x : Rule) → rule_of file ≡ Ok x → (s : SlipForm (formula_of file x))
      → (log : List ℕ) (t : Trace) → Accepted log t → r ≡ record_of t → says t (formula_of file x) s

abbrev pub FindsFirst : List ℕ → Record → Finding → Type 0
FindsFirst file r a = SlipCall file r (λ n. RefusedWith n a) (λ t f s. FindsIn t f s a)

abbrev pub ReadsSlip : List ℕ → Record → Slip → Passing → Type 0
ReadsSlip file r x a = SlipCall file r (λ n. RefusedWith n a) (λ t f s. ReadsIn t f s (slip_runs x) a)
