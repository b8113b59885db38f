-- The single-line call: "One call takes a rule, a record, a work area and one line, and answers the new record and the verdict."
use Rattle.std.specs.Prelude.{ℕ, ◌≡◌, cond, List, ◌++◌, ltb, length}
use Rattle.std.proofs.Math.Option.{Option, none, some}
use Rattle.refusals.specs.declared.Refusal.{Refusal}
use Rattle.refusals.specs.Refusal.{number}
use Rattle.trace.specs.declared.Record.{Record}
use Rattle.trace.specs.Trace.{Trace, Answer, next, refused, Accepted, step}
use Rattle.trace.specs.Record.{record_of}
use Rattle.pairs.specs.declared.Layout.{Layout}
use Rattle.pairs.specs.Layout.{work_size}
use Rattle.pairs.specs.Pairs.{work_of}
use Rattle.rules.specs.declared.Rule.{Rule}
use Rattle.std.specs.Prelude.{Result, Ok, Err}
use Rattle.refusals.specs.Refusal.{number}
use Rattle.refusals.specs.declared.Refusal.{Refusal}
use Rattle.rules.specs.Rules.{rule_of, formula_of}
use Rattle.logic.specs.declared.Verdict.{Verdict}
use Rattle.logic.specs.Verdict.{verdict_of, Says}
use Rattle.single.specs.declared.Outcome.{Outcome}
use Rattle.single.specs.declared.Outcome.TheVariants.{Holds, Fails, Refused}
use Rattle.single.specs.declared.Checked.{Checked}
use Rattle.reading.specs.Left.{Left}
use Rattle.reading.specs.Reading.{RefusedAs}
use Rattle.single.specs.Handed.{HandedBy, Reached}

-- the outcome of a line that is taken
abbrev pub judged : Verdict → Outcome
judged Verdict.Holds = Holds
judged Verdict.Fails = Fails

-- "The single-line call hands back the same record, work area": the record and the number
abbrev pub refusing : Record → ℕ → Checked
refusing r c = record { state = r; outcome = Refused c }

-- a line after the lines that t stands for: "then the line: 11, 12, 13, then 15, 18, 19 or 16, 17". What the line leaves:
unfoldable pub line_after : Layout → List ℕ → Rule → Trace → List ℕ → Answer → Checked × List ℕ
line_after lay file x t w (next u) = (record { state = record_of u; outcome = judged (verdict_of u (formula_of file x)) }, work_of lay u w)
line_after lay file x t w (refused e) = (refusing (record_of t) (number e), w)

abbrev pub advance_of : Layout → List ℕ → Rule → Trace → List ℕ → List ℕ → Checked × List ℕ
advance_of lay file x t w line = line_after lay file x t w (step (next t) line)

-- a record and a work area with a rule that is taken, left by the lines that t stands for or by none: 21 first
unfoldable pub state_of : Layout → List ℕ → Rule → Record → List ℕ → List ℕ → Option Trace → Checked × List ℕ
state_of lay file x r w line (some t) = advance_of lay file x t w line
state_of lay file x r w line none = (refusing r 21, w)

unfoldable pub with_rule : {A : Type 0} → Result Rule Refusal → (ℕ → A) → (Rule → A) → A
with_rule (Ok x) f g = g x
with_rule (Err e) f g = f (number e)

-- "Order: 20; then the rule from its front ..; then 21; ..; then the line": the answer, and the work area after it
unfoldable pub line_of : Layout → List ℕ → Record → List ℕ → List ℕ → Option Trace → Checked × List ℕ
line_of lay file r w line h =
    cond (ltb (length w) (work_size lay)) (refusing r 20, w)
    (with_rule (rule_of file) (λ n. (refusing r n, w)) (λ x. state_of lay file x r w line h))

-- ── what the answer says of the log ──
-- the line is taken: the log with the line is accepted, its record and pair bytes are answered, and the verdict says whether the
-- rule is true of it
pub record TakenLine (lay : Layout) (file : List ℕ) (x : Rule) (log line : List ℕ) (w : List ℕ) (v : Verdict) (r : Record) (w' : List ℕ) : Type 0 where
  pub trace : Trace
  pub accepted : Accepted (log ++ line) trace
  pub state : r ≡ record_of trace
  pub pairs : w' ≡ work_of lay trace w
  pub verdict : Says trace (formula_of file x) v

-- the line is refused with c, by its own bytes or by the lines before it, and nothing changes
pub record RefusedLine (t : Trace) (line : List ℕ) (r : Record) (w : List ℕ) (c : ℕ) (r' : Record) (w' : List ℕ) : Type 0 where
  pub why : RefusedAs c (step (next t) line)
  pub state : r' ≡ r
  pub pairs : w' ≡ w

pub record LineMeans (lay : Layout) (file : List ℕ) (x : Rule) (log : List ℕ) (t : Trace) (r : Record) (w line : List ℕ) (a : Checked) (w' : List ℕ) : Type 0 where
  pub taken : (v : Verdict) → a.outcome ≡ judged v → TakenLine lay file x log line w v a.state w'
  pub refuses : (c : ℕ) → a.outcome ≡ Refused c → RefusedLine t line r w c a.state w'

-- The contract of the single-line call, for every input. Where 21 is looked for, accepted lines leave what is handed in or they do
-- not; the answer and the work area are as defined; and for every log that leaves what is handed in, what the answer means.
pub record ChecksLine (lay : Layout) (file : List ℕ) (r : Record) (w line : List ℕ) (a : Checked) (w' : List ℕ) : Type 0 where
  pub decided : Reached lay file w → (k : Option Trace) × HandedBy lay r w k
  pub answer : (k : Option Trace) → (Reached lay file w → HandedBy lay r w k) → ◌≡◌ {A = Checked × List ℕ} (a, w') (line_of lay file r w line k)
  pub meaning : (x : Rule) → rule_of file ≡ Ok x → (log : List ℕ) (t : Trace) → Left lay log t r w → LineMeans lay file x log t r w line a w'
