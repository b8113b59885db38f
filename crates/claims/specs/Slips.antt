-- Slips: "A failed rule must show its runs." Where the two calls refuse, what they say otherwise, and that the verdict
-- is F exactly when some slip passes.
use Rattle.std.specs.Prelude.{ℕ, ◌≡◌, ◌↔◌, List, length}
use Rattle.trace.specs.declared.Record.{Record}
use Rattle.trace.specs.Trace.{Trace, Accepted}
use Rattle.trace.specs.Record.{record_of, Valid}
use Rattle.rules.specs.Formula.{Formula}
use Rattle.grammar.specs.MetRule.{MetRule}
use Rattle.grammar.specs.Stands.{RuleFile}
use Rattle.logic.specs.declared.Verdict.{Verdict}
use Rattle.logic.specs.Verdict.{verdict_byte, Says}
use Rattle.reading.specs.Left.{Left}
use Rattle.single.specs.Line.{judged}
use Rattle.report.specs.Calls.{LineCall}
use Rattle.slip_form.specs.declared.Slip.{Slip}
use Rattle.slip_form.specs.Form.{SlipForm}
use Rattle.slip_form.specs.Slips.{Fits, Passes, slip_runs, FirstSlip}
use Rattle.std.specs.Prelude.{Ok, true}
use Rattle.refusals.specs.Refusal.{RefusedWith}
use Rattle.slips.specs.Answers.{Finding, Passing, with_slip, without_slip, FindsFirst, ReadsSlip}
use Rattle.claims.specs.Demand1.{Refuses}

-- ── where the calls refuse ──
-- "26 for a rule of another form, after 10"; 21 "of the record alone"; then what is met after the record's lines
pub data MetSlips (file : List ℕ) (r : Record) (after : (t : Trace) (f : Formula) → SlipForm f → ℕ → Type 0) (c : ℕ)
    : Type 0 where
  slip_rule : MetRule file c → MetSlips file r after c
  slip_form : (f : Formula) → RuleFile file f → (SlipForm f → ⊥) → c ≡ 26 → MetSlips file r after c
  slip_record : (f : Formula) → RuleFile file f → SlipForm f → (Valid r → ⊥) → c ≡ 21 → MetSlips file r after c
  slip_then : (f : Formula) → RuleFile file f → (s : SlipForm f) → (log : List ℕ) (t : Trace) → Accepted log t
      → r ≡ record_of t → after t f s c → MetSlips file r after c

-- the finder meets no more
abbrev pub MetFinding : List ℕ → Record → ℕ → Type 0
MetFinding file r = MetSlips file r (λ t f s c. ⊥)

-- "22 for a wrong number of runs or a run not finished, after 21"
abbrev pub MetPassing : List ℕ → Record → List ℕ → ℕ → Type 0
MetPassing file r ks = MetSlips file r (λ t f s c. (Fits t f s ks → ⊥) × (c ≡ 22))

-- ── what they say otherwise ──
-- of a rule file with the formula f, and a record that the lines of an accepted log leave
abbrev pub Of : ((t : Trace) (f : Formula) → SlipForm f → Type 0) → List ℕ → Record → Type 0
Of says file r =
    (f : Formula) → RuleFile file f → (s : SlipForm f) → (log : List ℕ) (t : Trace) → Accepted log t → r ≡ record_of t
    → says t f s

pub record Slips : Type 0 where
  pub finding_refused : (file : List ℕ) (r : Record) (a : Finding) → FindsFirst file r a → (c : ℕ)
      → Refuses c (RefusedWith c a) (MetFinding file r c) (Unit {0})
  pub passing_refused : (file : List ℕ) (r : Record) (x : Slip) (a : Passing) → ReadsSlip file r x a → (c : ℕ)
      → Refuses c (RefusedWith c a) (MetPassing file r (slip_runs x) c) (Unit {0})
  -- "A small reader passes a slip if and only if all its runs are finished and the inner part is true of them"; the
  -- places of the slip behind its count have no part
  pub passing : (file : List ℕ) (r : Record) (x : Slip) (a : Passing) → ReadsSlip file r x a
      → Of (λ t f s. (a ≡ Ok true) ↔ Passes t f s (slip_runs x)) file r
  -- "The verdict is F exactly when some slip passes"
  pub verdict : (f : Formula) (s : SlipForm f) (log : List ℕ) (t : Trace) → Accepted log t → (v : Verdict) → Says t f v
      → (verdict_byte v ≡ 0) ↔ ((ks : List ℕ) × Passes t f s ks)
  -- "and ours is the first in order of run numbers, outermost compared first, or "none""
  pub first : (file : List ℕ) (r : Record) (a : Finding) → FindsFirst file r a
      → Of (λ t f s. (x : Slip) → (a ≡ with_slip x) ↔ FirstSlip t f s x) file r
  pub none : (file : List ℕ) (r : Record) (a : Finding) → FindsFirst file r a
      → Of (λ t f s. (a ≡ without_slip) ↔ ((ks : List ℕ) → Passes t f s ks → ⊥)) file r
  -- so a slip is found exactly where the verdict is F, and the reader passes it
  pub found : (file : List ℕ) (r : Record) (a : Finding) → FindsFirst file r a
      → Of (λ t f s. (v : Verdict) → Says t f v → (verdict_byte v ≡ 0) ↔ ((x : Slip) × (a ≡ with_slip x))) file r
  -- and so after a line that the single-line call takes
  pub line : (k : LineCall) (f : Formula) → RuleFile k.file f → SlipForm f → (log : List ℕ) (t : Trace)
      → Left k.layout log t k.state k.work → (v : Verdict) → k.answer.outcome ≡ judged v
      → (a : Finding) → FindsFirst k.file k.answer.state a → (verdict_byte v ≡ 0) ↔ ((x : Slip) × (a ≡ with_slip x))
  pub found_passes : (file : List ℕ) (r : Record) (a : Finding) → FindsFirst file r a → (x : Slip) → a ≡ with_slip x
      → (b : Passing) → ReadsSlip file r x b → b ≡ Ok true
  -- "run numbers, one for each "some"": a slip has as many as its count says, places or not
  pub counted : (x : Slip) → length (slip_runs x) ≡ x.count
