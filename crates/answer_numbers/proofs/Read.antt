-- An answer is read in one way, whichever call it is of: what is below 65,536 is no refusal, and a refusal is told apart from the value
-- beside it. Verdicts, sets, relations, counts of lines and lengths are below 65,536.
use Prim.Native.Nat.{ℕ, ◌+◌, ◌<◌, ◌≤◌}
use mathlib.Core.Path.{◌≡◌}
use native.Mathlib.Omega.{arith}
use Rattle.logic.specs.declared.Verdict.{Verdict}
use Rattle.single.specs.Line.{judged}
use Rattle.answer_numbers.specs.Numbers.{refusal, refusal_in, value_in, outcome_number}

pub value_read : (v : ℕ) → v < 65536 → (refusal_in v ≡ 0) × (value_in v ≡ v)
value_read v h = (omega arith, omega arith)

pub refusal_read : (c l : ℕ) → l < 65536 → (refusal_in (refusal c + l) ≡ c) × (value_in (refusal c + l) ≡ l)
refusal_read c l h = (omega arith, omega arith)

-- no refusal is a verdict
pub refusal_no_verdict : (c : ℕ) → 1 ≤ c → (v : Verdict) → refusal c ≡ outcome_number (judged v) → ⊥
refusal_no_verdict c h Verdict.Holds e = omega arith
refusal_no_verdict c h Verdict.Fails e = omega arith
