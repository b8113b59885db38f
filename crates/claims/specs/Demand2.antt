-- Demand 2: what each call leaves after accepted lines.
use Rattle.std.specs.Prelude.{ℕ, suc, ◌+◌, ◌≤◌, ◌<◌, ◌≡◌, ◌↔◌, List, [], ◌++◌, length, get_or, take, Result, Ok}
use Rattle.lists.specs.Limits.{max_lines}
use Rattle.refusals.specs.declared.Refusal.{Refusal}
use Rattle.lines.specs.Log.{lines_of}
use Rattle.trace.specs.declared.Record.{Record}
use Rattle.trace.specs.declared.RunNo.{RunNo}
use Rattle.trace.specs.Trace.{Trace, no_trace, Accepted}
use Rattle.trace.specs.Record.{record_of}
use Rattle.trace.specs.Orderly.{Orderly, OneRun, max_log_bytes}
use Rattle.pairs.specs.declared.Layout.{Layout}
use Rattle.pairs.specs.Layout.{work_size}
use Rattle.pairs.specs.Start.{start_of}
use Rattle.relations.specs.Runs.{Relating, RelatedAs}
use Rattle.rules.specs.declared.Rule.{Rule}
use Rattle.std.specs.Prelude.{Ok, Err}
use Rattle.refusals.specs.Refusal.{number}
use Rattle.refusals.specs.declared.Refusal.{Refusal}
use Rattle.rules.specs.Formula.{Formula}
use Rattle.rules.specs.Rules.{rule_of, formula_of}
use Rattle.grammar.specs.Stands.{RuleFile}
use Rattle.logic.specs.declared.Verdict.{Verdict}
use Rattle.reading.specs.Left.{Left}
use Rattle.single.specs.Line.{judged}
use Rattle.tallies.specs.Tally.{failed, tally_after, TallyCounts}
use Rattle.whole_log.specs.Log.{log_of}
use Rattle.whole_log.specs.Repeated.{Repeats}
use Rattle.report.specs.declared.Reported.TheVariants as Reported
use Rattle.text_pieces.specs.Pieces.{refused_text}
use Rattle.report.specs.Text.{report_text}
use Rattle.report.specs.Report.{TextMeans}
use Rattle.report.specs.Settled.{Settled, Judged, Reads}
use Rattle.report.specs.Calls.{StartCall, LineCall, TalliedCall, LogCall, ReportCall, report_part}
use Rattle.claims.specs.WhereMet.{Counts}
use Rattle.accepted_logs.specs.Spoken.{Spoken, Accepting}

-- "After every accepted line, the relation noted for each pair of runs is the one that their line positions give, and
-- the verdict is "holds" if and only if the rule, as the published interval logic defines it, is true of the lines
-- read so far." `Settled`: the record and the work area are those of accepted lines, and the byte at the place that the
-- layout named has for two runs notes what their positions give; `Judged`: and the verdict says whether the lines
-- satisfy the rule.
pub record Demand2 : Type 0 where
  -- a file that is taken is a rule file, and its formula the one that its table stands for
  pub rule : (file : List ℕ) (f : Formula)
      → RuleFile file f ↔ ((x : Rule) × (rule_of file ≡ Ok x) × (formula_of file x ≡ f))
  -- a record that is started is that of no lines
  pub start : (k : StartCall) → k.answer.outcome ≡ Ok tt → Settled k.layout [] k.answer.state k.work'
  -- a line that the single-line call takes on what accepted lines left
  pub line : (k : LineCall) (x : Rule) → rule_of k.file ≡ Ok x → (log : List ℕ) (t : Trace)
      → Left k.layout log t k.state k.work → (v : Verdict) → k.answer.outcome ≡ judged v
      → Judged k.layout k.file x (log ++ k.line) k.answer.state k.work' v
  -- the same with a tally: "failing lines rise by 1 exactly at a line whose verdict fails", and the tally of the log
  -- becomes that of the log with the line
  pub tallied : (k : TalliedCall) (x : Rule) → rule_of k.file ≡ Ok x → (log : List ℕ) (t : Trace)
      → Left k.layout log t k.state k.work → (v : Verdict) → k.answer.outcome ≡ judged v
      → Judged k.layout k.file x (log ++ k.line) k.answer.state k.work' v
      × TallyCounts (log ++ k.line) k.answer.tally × (k.answer.tally.failing ≡ k.tally.failing + failed v)
      × (k.tally ≡ tally_after k.file x log t → (u : Trace) → Accepted (log ++ k.line) u
      → k.answer.tally ≡ tally_after k.file x (log ++ k.line) u)
  -- a tally "starts at zeros", and that of a log is taken
  pub zeros : (file : List ℕ) (x : Rule)
      → tally_after file x [] no_trace ≡ record { lines = 0; begun = 0; finished = 0; running = 0; failing = 0 }
  pub counts : (file : List ℕ) (x : Rule) (log : List ℕ) (t : Trace) → Accepted log t
      → Counts t (tally_after file x log t)
  -- "answers their one relation by its number"
  pub relate : (r : Record) (a b : RunNo) (v : Result ℕ Refusal) → Relating r a b v → (log : List ℕ) (t : Trace)
      → Accepted log t → r ≡ record_of t → (n : ℕ) → (v ≡ Ok n) ↔ RelatedAs t a.0 b.0 n
  -- the lines of the part of a whole log that is read (`Modes` says which), and the lines of its report
  pub log : (k : LogCall) (x : Rule) → rule_of k.file ≡ Ok x → work_size k.layout ≤ length k.work
      → max_lines ≤ length k.verdicts → Reads k x
  pub report : (k : ReportCall) (n : ℕ) → k.answer ≡ Reported.Length n
      → ((x : Rule) → rule_of k.file ≡ Ok x → TextMeans k.file x (report_part k) (take n k.text'))
      × ((e : Refusal) → rule_of k.file ≡ Err e → take n k.text' ≡ refused_text 0 (number e))
  -- the whole-log call is the repeated single-line call, its verdicts are those of prefixes, and first bytes decide
  pub repeats : (lay : Layout) (file log w out : List ℕ) (x : Rule) → rule_of file ≡ Ok x
      → work_size lay ≤ length w → max_lines ≤ length out
      → Repeats lay file (start_of lay w).0.state (start_of lay w).1 (lines_of log) out (log_of lay file log w out)
  pub prefixes : (lay : Layout) (file w out log part : List ℕ) (n : ℕ) → lines_of part ≡ take (suc n) (lines_of log)
      → n < length (lines_of log) → (u : Trace) → Accepted part u
      → get_or (log_of lay file log w out).2 n 0 ≡ get_or (log_of lay file part w out).2 n 0
  pub first_bytes : (lay : Layout) (file log w out : List ℕ)
      → log_of lay file log w out ≡ log_of lay file (take 8192 log) w out
  pub first_bytes_report : (file log : List ℕ) → report_text (take 600 file) (take 8192 log) ≡ report_text file log
  -- what accepted logs are: in order, "hence 256 lines"; their lines say what they leave; "accepted lines fill at most
  -- 5,248" bytes; and a log is accepted if none of its lines meets a refusal. Runs are told apart by their numbers. Of
  -- ids `Orderly` says that at any line at most one run of an id is open, and `Spoken` that an end line closes that one
  pub accepted : (log : List ℕ) (t : Trace) → Accepted log t
      → Orderly t × ((l : ℕ) → 0 < l → l ≤ t.lines → OneRun t l) × Spoken log t × (length log ≤ max_log_bytes)
  pub accepting : Accepting
