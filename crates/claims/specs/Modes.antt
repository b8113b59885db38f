-- The two modes of a call on a whole log: "after an F line, nothing further is read and the T line covers what was
-- read. The full mode is named in the call". What is read in each mode; that what is answered is that of the part that
-- is read, so that nothing behind it matters; and that its verdict bytes are those of lines that hold, but for the
-- last.
use Rattle.std.specs.Prelude.{ℕ, ◌+◌, ◌<◌, ◌≤◌, ◌≡◌, List, [], ◌∷◌, ◌++◌, length, get_or, take, drop}
use Rattle.lists.specs.Limits.{max_lines}
use Rattle.lines.specs.Log.{lines_of}
use Rattle.trace.specs.Trace.{Trace, Accepted}
use Rattle.pairs.specs.Layout.{work_size}
use Rattle.rules.specs.declared.Rule.{Rule}
use Rattle.std.specs.Prelude.{Ok}
use Rattle.rules.specs.Rules.{rule_of}
use Rattle.reading.specs.declared.Ending.TheVariants as Ending
use Rattle.whole_log.specs.declared.Mode.{Mode}
use Rattle.whole_log.specs.declared.Mode.TheVariants.{FirstFailure, Full}
use Rattle.whole_log.specs.Part.{read_part, EndsFailing, PartOf}
use Rattle.logic.specs.declared.Verdict.TheVariants.{Fails}
use Rattle.tallies.specs.Tally.{tally_after}
use Rattle.report.specs.declared.Reported.TheVariants as Reported
use Rattle.report.specs.Text.{line_text, tally_text, report_text}
use Rattle.report.specs.Calls.{LogCall, log_part, ReportCall, report_part}

-- two calls on logs that are lent and told the same, but for the log and the mode
pub record SameLent (j k : LogCall) : Type 0 where
  pub layout : j.layout ≡ k.layout
  pub file : j.file ≡ k.file
  pub work : j.work ≡ k.work
  pub verdicts : j.verdicts ≡ k.verdicts

-- they answer and leave the same
pub record SameLeft (j k : LogCall) : Type 0 where
  pub answer : j.answer ≡ k.answer
  pub work : j.work' ≡ k.work'
  pub verdicts : j.verdicts' ≡ k.verdicts'

-- the same of reports
pub record SameLentReport (j k : ReportCall) : Type 0 where
  pub layout : j.layout ≡ k.layout
  pub file : j.file ≡ k.file
  pub work : j.work ≡ k.work
  pub verdicts : j.verdicts ≡ k.verdicts
  pub text : j.text ≡ k.text

pub record SameLeftReport (j k : ReportCall) : Type 0 where
  pub answer : j.answer ≡ k.answer
  pub work : j.work' ≡ k.work'
  pub verdicts : j.verdicts' ≡ k.verdicts'
  pub text : j.text' ≡ k.text'

-- a call whose rule is taken and whose buffers are long enough
pub record Taking (k : LogCall) (x : Rule) : Type 0 where
  pub rule : rule_of k.file ≡ Ok x
  pub work : work_size k.layout ≤ length k.work
  pub verdicts : max_lines ≤ length k.verdicts

-- By default, in a log with a failing line, the report's text has a line for each line of the part that is read (those
-- before the last: `TextMeans`), the last one with F, and then the tally of these lines, and nothing else: no R.
pub record EndsReport (k : ReportCall) (x : Rule) (n : ℕ) : Type 0 where
  pub trace : Trace
  pub accepted : Accepted (report_part k) trace
  pub last : (m : ℕ) → m + 1 ≡ trace.lines → get_or (lines_of (take n k.text')) m [] ≡ line_text (m + 1) Fails
  pub rest : drop trace.lines (lines_of (take n k.text'))
      ≡ tally_text (tally_after k.file x (report_part k) trace) ∷ []

pub record Modes : Type 0 where
  -- what is read: in the full mode the whole log; by default the shortest part that ends in a failing line, or all
  pub reads : (mode : Mode) (file : List ℕ) (x : Rule) (log : List ℕ) → rule_of file ≡ Ok x
      → PartOf mode file x log (read_part mode file log)
  pub part : (k : LogCall) (x : Rule) → rule_of k.file ≡ Ok x
      → PartOf k.mode k.file x k.log (log_part k)
  pub report-part : (k : ReportCall) (x : Rule) → rule_of k.file ≡ Ok x
      → PartOf k.mode k.file x k.log (report_part k)
  -- there is one such part
  pub one : (mode : Mode) (file : List ℕ) (x : Rule) (log p q : List ℕ) → PartOf mode file x log p
      → PartOf mode file x log q → p ≡ q
  -- the call on the log cut there, in the full mode, answers and leaves the same
  pub cut : (j k : LogCall) → SameLent j k → j.mode ≡ Full → j.log ≡ log_part k → SameLeft j k
  pub cut-report : (j k : ReportCall) → SameLentReport j k → j.mode ≡ Full → j.log ≡ report_part k → SameLeftReport j k
  -- "a line after the first F meets no refusal in the new default": once a line fails, the call is not refused ..
  pub no_refusal : (k : LogCall) (x : Rule) → Taking k x → k.mode ≡ FirstFailure → (p : List ℕ)
      → EndsFailing k.file x k.log p → k.answer.ending ≡ Ending.Read
  -- .. and no R is printed: the F line is printed and counted, and then comes the tally
  pub no_refusal-report : (k : ReportCall) (n : ℕ) (x : Rule) → k.answer ≡ Reported.Length n
      → rule_of k.file ≡ Ok x → k.mode ≡ FirstFailure → (p : List ℕ)
      → EndsFailing k.file x k.log p → EndsReport k x n
  -- .. and whatever stands behind that line, of any bytes, makes no difference
  pub behind : (j k : LogCall) (x : Rule) → rule_of k.file ≡ Ok x → SameLent j k → j.mode ≡ FirstFailure
      → k.mode ≡ FirstFailure → (p r : List ℕ) → EndsFailing k.file x k.log p → j.log ≡ p ++ r → SameLeft j k
  pub behind-report : (j k : ReportCall) (x : Rule) → rule_of k.file ≡ Ok x → SameLentReport j k
      → j.mode ≡ FirstFailure → k.mode ≡ FirstFailure → (p r : List ℕ) → EndsFailing k.file x k.log p
      → j.log ≡ p ++ r → SameLeftReport j k
  -- by default every line that is taken holds, but for the last one if a line fails
  pub all_hold : (k : LogCall) (x : Rule) → Taking k x → k.mode ≡ FirstFailure
      → ((p : List ℕ) → EndsFailing k.file x k.log p → ⊥) → (n : ℕ) → n < k.answer.state.lines.0
      → get_or k.verdicts' n 0 ≡ 1
  pub holds : (k : LogCall) (x : Rule) → Taking k x → k.mode ≡ FirstFailure → (n : ℕ)
      → n + 1 < k.answer.state.lines.0 → get_or k.verdicts' n 0 ≡ 1
  pub fails : (k : LogCall) (x : Rule) → Taking k x → k.mode ≡ FirstFailure → (p : List ℕ)
      → EndsFailing k.file x k.log p → (n : ℕ) → n + 1 ≡ k.answer.state.lines.0 → get_or k.verdicts' n 0 ≡ 0
  -- first bytes decide in either mode
  pub first_bytes : (mode : Mode) (file log : List ℕ)
      → read_part mode file (take 8192 log) ≡ take 8192 (read_part mode file log)
  pub first_bytes_report : (mode : Mode) (file log : List ℕ)
      → report_text (take 600 file) (read_part mode (take 600 file) (take 8192 log))
      ≡ report_text file (read_part mode file log)
