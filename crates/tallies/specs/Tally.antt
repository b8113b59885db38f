-- The single-line call with a tally: "lines, runs begun, finished, open, failing lines".
use Rattle.std.specs.Prelude.{ℕ, ◌+◌, ◌-◌, ◌≡◌, Bool, true, ◌&&◌, cond, List, [], ◌∷◌, ◌++◌, eqb, leb, ltb, length}
use Rattle.std.proofs.Math.Option.{Option, none, some}
use Rattle.refusals.specs.Refusal.{number}
use Rattle.lines.specs.Event.{Event, begins, ends, faulty}
use Rattle.lines.specs.Line.{event_of}
use Rattle.lines.specs.Log.{lines_of}
use Rattle.trace.specs.declared.Record.{Record}
use Rattle.trace.specs.Trace.{Trace, Answer, next, refused, no_trace, Accepted, step}
use Rattle.trace.specs.Orderly.{finished_runs}
use Rattle.trace.specs.Steps.{held}
use Rattle.trace.specs.Record.{record_of}
use Rattle.pairs.specs.declared.Layout.{Layout}
use Rattle.pairs.specs.Layout.{work_size}
use Rattle.pairs.specs.Pairs.{work_of}
use Rattle.rules.specs.declared.Rule.{Rule}
use Rattle.std.specs.Prelude.{Ok}
use Rattle.rules.specs.Rules.{rule_of, formula_of}
use Rattle.logic.specs.declared.Verdict.{Verdict}
use Rattle.logic.specs.Verdict.{verdict_of}
use Rattle.single.specs.declared.Outcome.TheVariants.{Refused}
use Rattle.single.specs.declared.Checked.{Checked}
use Rattle.tallies.specs.declared.Tally.{Tally}
use Rattle.tallies.specs.declared.Tallied.{Tallied}
use Rattle.reading.specs.Left.{Left}
use Rattle.single.specs.Handed.{HandedBy, Reached}
use Rattle.single.specs.Line.{judged, with_rule, LineMeans}
use Rattle.reading.specs.Reading.{by_answer}

-- The tally of the lines that t stands for, n of which failed. "Begun is the count of accepted begin lines, finished that of
-- accepted end lines, and begun equals finished plus open."
unfoldable pub tally_of : Trace → ℕ → Tally
tally_of t n =
    record {
      lines = t.lines;
      begun = length t.runs;
      finished = finished_runs t.runs;
      running = length t.runs - finished_runs t.runs;
      failing = n;
    }

-- how many lines are begin lines, and how many are end lines
abbrev pub begins_run : Event → ℕ
begins_run (begins i l) = 1
begins_run (ends i) = 0
begins_run (faulty c) = 0

abbrev pub ends_run : Event → ℕ
ends_run (begins i l) = 0
ends_run (ends i) = 1
ends_run (faulty c) = 0

unfoldable pub begin_lines : List (List ℕ) → ℕ
begin_lines [] = 0
begin_lines (l ∷ ls) = begins_run (event_of l) + begin_lines ls

unfoldable pub end_lines : List (List ℕ) → ℕ
end_lines [] = 0
end_lines (l ∷ ls) = ends_run (event_of l) + end_lines ls

-- "failing lines rise by 1 exactly at a line whose verdict fails"
abbrev pub failed : Verdict → ℕ
failed Verdict.Holds = 0
failed Verdict.Fails = 1

-- "24 a tally whose first four counts are not the record's, or whose failing lines exceed its lines"
unfoldable pub counts? : Trace → Tally → Bool
counts? t y =
    eqb y.lines t.lines
    && (eqb y.begun (length t.runs)
    && (eqb y.finished (finished_runs t.runs)
    && (eqb y.running (length t.runs - finished_runs t.runs)
    && leb y.failing y.lines)))

abbrev pub refusing_with : Record → Tally → ℕ → Tallied
refusing_with r y c = record { state = r; tally = y; outcome = Refused c }

-- the counts of a record, whether a tally has them, and the tally after a line
abbrev pub counts_of : Record → ℕ → Tally
counts_of r n =
    record {
      lines = r.lines.0;
      begun = r.runs.count;
      finished = finished_runs (held r.runs);
      running = r.runs.count - finished_runs (held r.runs);
      failing = n;
    }

pub record CountsRecord (r : Record) (n : ℕ) (y : Tally) : Type 0 where
  pub answer : y ≡ counts_of r n
  pub meaning : (t : Trace) → r ≡ record_of t → y ≡ tally_of t n

abbrev pub MatchesRecord : Record → Tally → Bool → Type 0
MatchesRecord r y b = (t : Trace) → r ≡ record_of t → b ≡ counts? t y

pub record CountsLine (c : Checked) (y : Tally) (a : Tallied) : Type 0 where
  pub refuses : (n : ℕ) → c.outcome ≡ Refused n → a ≡ refusing_with c.state y n
  pub takes : (t : Trace) (v : Verdict) → c.state ≡ record_of t → c.outcome ≡ judged v
      → a ≡ record { state = record_of t; tally = tally_of t (y.failing + failed v); outcome = judged v }

unfoldable pub tallied_after : Layout → List ℕ → Rule → Trace → Tally → List ℕ → Answer → Tallied × List ℕ
tallied_after lay file x t y w (next u) =
    let v = verdict_of u (formula_of file x) in
    (record { state = record_of u; tally = tally_of u (y.failing + failed v); outcome = judged v }, work_of lay u w)
tallied_after lay file x t y w (refused e) = (refusing_with (record_of t) y (number e), w)

-- 21, then 24, then the line
unfoldable pub tallied_state : Layout → List ℕ → Rule → Record → Tally → List ℕ → List ℕ → Option Trace → Tallied × List ℕ
tallied_state lay file x r y w line (some t) =
    cond (counts? t y) (tallied_after lay file x t y w (step (next t) line)) (refusing_with (record_of t) y 24, w)
tallied_state lay file x r y w line none = (refusing_with r y 21, w)

-- 24, then the line, for every log that leaves the record and the work area
abbrev pub AdvancesTallied : Layout → List ℕ → Rule → Record → Tally → List ℕ → List ℕ → Tallied → List ℕ → Type 0
AdvancesTallied lay file x r y w line a w' =
    (log : List ℕ) (t : Trace) → Left lay log t r w → ◌≡◌ {A = Tallied × List ℕ} (a, w') (tallied_state lay file x r y w line (some t))

unfoldable pub tallied_of : Layout → List ℕ → Record → Tally → List ℕ → List ℕ → Option Trace → Tallied × List ℕ
tallied_of lay file r y w line h =
    cond (ltb (length w) (work_size lay)) (refusing_with r y 20, w)
    (with_rule (rule_of file) (λ n. (refusing_with r y n, w)) (λ x. tallied_state lay file x r y w line h))

-- "Begun is the count of accepted begin lines, finished that of accepted end lines, and begun equals finished plus open."
pub record TallyCounts (log : List ℕ) (y : Tally) : Type 0 where
  pub lines : y.lines ≡ length (lines_of log)
  pub begun : y.begun ≡ begin_lines (lines_of log)
  pub finished : y.finished ≡ end_lines (lines_of log)
  pub balance : y.begun ≡ y.finished + y.running

-- how many of the lines fail, after those that t stands for; no line after a refused one counts
unfoldable pub failing_from : List ℕ → Rule → Trace → List (List ℕ) → ℕ
failing_from file x t [] = 0
failing_from file x t (l ∷ ls) = by_answer (step (next t) l) (λ u. failed (verdict_of u (formula_of file x)) + failing_from file x u ls) (λ c. 0)

-- the tally of an accepted log, whose lines leave t
unfoldable pub tally_after : List ℕ → Rule → List ℕ → Trace → Tally
tally_after file x log t = tally_of t (failing_from file x no_trace (lines_of log))

-- the answer without its tally
abbrev pub untallied : Tallied → Checked
untallied a = record { state = a.state; outcome = a.outcome }

-- what the answer says of the log, for a tally that has the record's counts: what that of the single-line call says; the counts are
-- those of the log with the line, and failing lines rise by 1 exactly if the verdict fails; the tally of the log becomes that of the
-- log with the line; a refused line leaves the tally
pub record TalliedMeans (lay : Layout) (file : List ℕ) (x : Rule) (log : List ℕ) (t : Trace) (r : Record) (y : Tally) (w line : List ℕ) (a : Tallied) (w' : List ℕ) : Type 0 where
  pub single : LineMeans lay file x log t r w line (untallied a) w'
  pub counts : (v : Verdict) → a.outcome ≡ judged v → TallyCounts (log ++ line) a.tally
  pub failing : (v : Verdict) → a.outcome ≡ judged v → a.tally.failing ≡ y.failing + failed v
  pub goes_on : y ≡ tally_after file x log t → (v : Verdict) → a.outcome ≡ judged v → (u : Trace) → Accepted (log ++ line) u → a.tally ≡ tally_after file x (log ++ line) u
  pub kept : (c : ℕ) → a.outcome ≡ Refused c → a.tally ≡ y

-- the contract, for every input
pub record ChecksTallied (lay : Layout) (file : List ℕ) (r : Record) (y : Tally) (w line : List ℕ) (a : Tallied) (w' : List ℕ) : Type 0 where
  pub decided : Reached lay file w → (k : Option Trace) × HandedBy lay r w k
  pub answer : (k : Option Trace) → (Reached lay file w → HandedBy lay r w k) → ◌≡◌ {A = Tallied × List ℕ} (a, w') (tallied_of lay file r y w line k)
  pub meaning : (x : Rule) → rule_of file ≡ Ok x → (log : List ℕ) (t : Trace) → Left lay log t r w → counts? t y ≡ true
      → TalliedMeans lay file x log t r y w line a w'

-- the answer with a tally
abbrev pub with_tally : Checked → Tally → Tallied
with_tally c y = record { state = c.state; tally = y; outcome = c.outcome }

-- "A second form of the single-line call is also lent one tally, updated where it stands after each accepted line": the answer, with the
-- tally y' and the work area w' at exit, is that of the call by value at the tally y lent
abbrev pub ChecksLent : Layout → List ℕ → Record → Tally → List ℕ → List ℕ → Checked → Tally → List ℕ → Type 0
ChecksLent lay file r y w line c y' w' = ChecksTallied lay file r y w line (with_tally c y') w'
