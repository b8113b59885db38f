-- The verdict of a line: whether the lines read so far satisfy the rule.
use Rattle.std.specs.Prelude.{ℕ, ◌≡◌, ◌↔◌, cond, List}
use Rattle.trace.specs.Trace.{Trace, Accepted}
use Rattle.rules.specs.Formula.{Formula}
use Rattle.logic.specs.declared.Verdict.{Verdict}
use Rattle.logic.specs.declared.Verdict.TheVariants.{Holds, Fails}
use Rattle.logic.specs.Satisfies.{Binding, Satisfies}
use Rattle.logic.specs.Model.{eval, model_of}

-- "a byte a line, 1 holds, 0 fails"
abbrev pub verdict_byte : Verdict → ℕ
verdict_byte Holds = 1
verdict_byte Fails = 0

-- the verdict of a formula after the lines that t stands for; no variable has a value yet, and a closed formula asks for none
unfoldable pub verdict_of : Trace → Formula → Verdict
verdict_of t f = cond (eval (model_of t) (λ _. 0) f) Holds Fails

-- the verdict w of a formula, and what it says: it holds exactly if t satisfies the formula, whatever the binding
pub record Says (t : Trace) (f : Formula) (w : Verdict) : Type 0 where
  pub answer : w ≡ verdict_of t f
  pub holds : (ρ : Binding) → (verdict_byte w ≡ 1) ↔ Satisfies t ρ f
  pub fails : (ρ : Binding) → (verdict_byte w ≡ 0) ↔ (Satisfies t ρ f → ⊥)

-- the log is accepted, and w is the formula's verdict after it
pub record After (log : List ℕ) (f : Formula) (w : Verdict) : Type 0 where
  pub trace : Trace
  pub accepted : Accepted log trace
  pub says : Says trace f w
