-- The report: the check program's whole output for a rule file and a log, in a lent buffer.
use Rattle.std.specs.Prelude.{ℕ, suc, ◌+◌, ◌<◌, ◌≤◌, ◌≡◌, cond, ◌||◌, List, [], ◌∷◌, ◌++◌, ltb, length, get_or, take, drop}
use Rattle.lists.specs.Limits.{max_lines}
use Rattle.refusals.specs.declared.Refusal.{Refusal}
use Rattle.refusals.specs.Refusal.{number}
use Rattle.lines.specs.Log.{lines_of}
use Rattle.trace.specs.Trace.{Trace, next, refused, no_trace, steps, Accepted, step}
use Rattle.pairs.specs.declared.Layout.{Layout}
use Rattle.pairs.specs.Layout.{work_size}
use Rattle.rules.specs.declared.Rule.{Rule}
use Rattle.std.specs.Prelude.{Ok, Err}
use Rattle.refusals.specs.Refusal.{number}
use Rattle.refusals.specs.declared.Refusal.{Refusal}
use Rattle.rules.specs.Rules.{rule_of, formula_of}
use Rattle.logic.specs.declared.Verdict.{Verdict}
use Rattle.logic.specs.Verdict.{Says}
use Rattle.whole_log.specs.declared.Mode.{Mode}
use Rattle.whole_log.specs.Log.{log_of}
use Rattle.whole_log.specs.Part.{read_part, PartOf}
use Rattle.tallies.specs.Tally.{tally_of, failing_from, tally_after}
use Rattle.report.specs.declared.Reported.{Reported}
use Rattle.report.specs.declared.Reported.TheVariants.{Length, Refused}
use Rattle.text_pieces.specs.Pieces.{refused_text}
use Rattle.report.specs.Text.{line_text, tally_text, report_text}

-- the answer, the work area, the verdict buffer and the text buffer
abbrev pub Result : Type 0
Result = Reported × List ℕ × List ℕ × List ℕ

-- the bytes that a text buffer has at least
abbrev pub report_size : ℕ
report_size = 2048

-- "20 a lent buffer shorter than stated": for any of the three, and then nothing is written
unfoldable pub report_of : Layout → List ℕ → List ℕ → List ℕ → List ℕ → List ℕ → Result
report_of lay file log w out text =
    cond (ltb (length w) (work_size lay) || (ltb (length out) max_lines || ltb (length text) report_size)) (Refused 20, w, out, text)
    (Length (length (report_text file log)), (log_of lay file log w out).1, (log_of lay file log w out).2, report_text file log ++ drop (length (report_text file log)) text)

-- ── what the text says of the log ──
-- a line of the text has a line's number and the letter of its verdict, where the lines up to it leave u
pub record LineSays (file : List ℕ) (x : Rule) (u : Trace) (n : ℕ) (s : List ℕ) : Type 0 where
  pub verdict : Verdict
  pub says : Says u (formula_of file x) verdict
  pub text : s ≡ line_text n verdict

-- of a rule x that is taken
pub record TextMeans (file : List ℕ) (x : Rule) (log text : List ℕ) : Type 0 where
  -- "for each accepted line its number, a space, and `H` or `F`"
  pub lines : (k : ℕ) (u : Trace) → k < length (lines_of log) → steps (next no_trace) (take (suc k) (lines_of log)) ≡ next u
      → LineSays file x u (suc k) (get_or (lines_of text) k [])
  -- "for a refused line its number, a space, `R` and the refusal joined (as `3 R15`), and no later line. Last comes `T`": after the
  -- text of the lines before it, that line and the tally of the lines before it, and nothing else
  pub stops : (before : List (List ℕ)) (last : List ℕ) (after : List (List ℕ)) (t : Trace) (c : Refusal) → lines_of log ≡ before ++ (last ∷ after)
      → steps (next no_trace) before ≡ next t → step (next t) last ≡ refused c
      → drop (length before) (lines_of text) ≡ refused_text (length before + 1) (number c) ∷ tally_text (tally_of t (failing_from file x no_trace before)) ∷ []
  -- every line is accepted: after their text the tally of the log, and nothing else
  pub whole : (t : Trace) → Accepted log t → drop (length (lines_of log)) (lines_of text) ≡ tally_text (tally_after file x log t) ∷ []

-- the contract, for every input; and what the bytes of the report mean
pub record Reports (lay : Layout) (file log w out text : List ℕ) (a : Reported) (w' out' text' : List ℕ) : Type 0 where
  pub answer : ◌≡◌ {A = Result} (a, w', out', text') (report_of lay file log w out text)
  -- no report is longer than the shortest buffer that is taken
  pub short : (n : ℕ) → a ≡ Length n → n ≤ report_size
  -- "A refused rule prints `0 R` and the number joined, and nothing else."
  pub unruled : (n : ℕ) (e : Refusal) → a ≡ Length n → rule_of file ≡ Err e → take n text' ≡ refused_text 0 (number e)
  pub meaning : (n : ℕ) (x : Rule) → a ≡ Length n → rule_of file ≡ Ok x → TextMeans file x log (take n text')

-- the contract of the call, which names a mode: the report is that of the part that is read
pub record ReportsPart (lay : Layout) (mode : Mode) (file log w out text : List ℕ) (a : Reported) (w' out' text' : List ℕ) : Type 0 where
  pub reports : Reports lay file (read_part mode file log) w out text a w' out' text'
  pub part : (x : Rule) → rule_of file ≡ Ok x → PartOf mode file x log (read_part mode file log)
