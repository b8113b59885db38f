-- One call of each kind: the layout and the mode that it names, what is handed in, what comes back (behind a ' what a lent buffer
-- holds at exit), and that its contract holds. The demands speak of every such call. That the calls keep their contracts is proved in their
-- crates; `check_line_lent` has the contract of the call with a tally by value. The calls for C and the bytes of a
-- record promise these answers (`scene_log`, `record_bytes`).
use Rattle.std.specs.Prelude.{ℕ, ◌≤◌, ◌≡◌, List, length, get_or}
use Rattle.lists.specs.Limits.{max_lines}
use Rattle.trace.specs.declared.Record.{Record}
use Rattle.pairs.specs.declared.Layout.{Layout}
use Rattle.pairs.specs.declared.Started.{Started}
use Rattle.pairs.specs.Layout.{work_size}
use Rattle.pairs.specs.Start.{start_of}
use Rattle.single.specs.declared.Checked.{Checked}
use Rattle.single.specs.Line.{ChecksLine}
use Rattle.tallies.specs.declared.Tally.{Tally}
use Rattle.tallies.specs.declared.Tallied.{Tallied}
use Rattle.tallies.specs.Tally.{ChecksTallied}
use Rattle.reading.specs.declared.LogRead.{LogRead}
use Rattle.whole_log.specs.declared.Mode.{Mode}
use Rattle.whole_log.specs.Log.{log_of}
use Rattle.whole_log.specs.Part.{read_part, ChecksPart}
use Rattle.report.specs.declared.Reported.{Reported}
use Rattle.report.specs.Report.{report_size, ReportsPart}

-- starting a record
pub record StartCall : Type 0 where
  pub layout : Layout
  pub work : List ℕ
  pub answer : Started
  pub work' : List ℕ
  pub starts : ◌≡◌ {A = Started × List ℕ} (answer, work') (start_of layout work)

-- one line on a record and a work area
pub record LineCall : Type 0 where
  pub layout : Layout
  pub file : List ℕ
  pub state : Record
  pub work : List ℕ
  pub line : List ℕ
  pub answer : Checked
  pub work' : List ℕ
  pub checks : ChecksLine layout file state work line answer work'

-- the same with a tally
pub record TalliedCall : Type 0 where
  pub layout : Layout
  pub file : List ℕ
  pub state : Record
  pub tally : Tally
  pub work : List ℕ
  pub line : List ℕ
  pub answer : Tallied
  pub work' : List ℕ
  pub checks : ChecksTallied layout file state tally work line answer work'

-- a whole log, of which the part is read that the mode says
pub record LogCall : Type 0 where
  pub layout : Layout
  pub mode : Mode
  pub file : List ℕ
  pub log : List ℕ
  pub work : List ℕ
  pub verdicts : List ℕ
  pub answer : LogRead
  pub work' : List ℕ
  pub verdicts' : List ℕ
  pub checks : ChecksPart layout mode file log work verdicts answer work' verdicts'

-- the part of the log that it reads
abbrev pub log_part : LogCall → List ℕ
log_part k = read_part k.mode k.file k.log

-- the report
pub record ReportCall : Type 0 where
  pub layout : Layout
  pub mode : Mode
  pub file : List ℕ
  pub log : List ℕ
  pub work : List ℕ
  pub verdicts : List ℕ
  pub text : List ℕ
  pub answer : Reported
  pub work' : List ℕ
  pub verdicts' : List ℕ
  pub text' : List ℕ
  pub reports : ReportsPart layout mode file log work verdicts text answer work' verdicts' text'

-- the part of the log that it reads
abbrev pub report_part : ReportCall → List ℕ
report_part k = read_part k.mode k.file k.log

-- ── lent buffers ──
-- the report's buffers are long enough
pub record LongEnough (k : ReportCall) : Type 0 where
  pub work : work_size k.layout ≤ length k.work
  pub verdicts : max_lines ≤ length k.verdicts
  pub text : report_size ≤ length k.text

-- a buffer that a call is lent: what it holds at entry and at exit, and how many bytes from its front the call is
-- stated to write
pub data Lent (w w' : List ℕ) (n : ℕ) : Type 0 where
  start_work : (k : StartCall) → w ≡ k.work → w' ≡ k.work' → n ≡ work_size k.layout → Lent w w' n
  line_work : (k : LineCall) → w ≡ k.work → w' ≡ k.work' → n ≡ work_size k.layout → Lent w w' n
  tallied_work : (k : TalliedCall) → w ≡ k.work → w' ≡ k.work' → n ≡ work_size k.layout → Lent w w' n
  log_work : (k : LogCall) → w ≡ k.work → w' ≡ k.work' → n ≡ work_size k.layout → Lent w w' n
  log_verdicts : (k : LogCall) → w ≡ k.verdicts → w' ≡ k.verdicts' → n ≡ k.answer.state.lines.0 → Lent w w' n
  report_work : (k : ReportCall) → w ≡ k.work → w' ≡ k.work' → n ≡ work_size k.layout → Lent w w' n
  report_verdicts : (k : ReportCall) → w ≡ k.verdicts → w' ≡ k.verdicts'
      → n ≡ (log_of k.layout k.file (report_part k) k.work k.verdicts).0.state.lines.0 → Lent w w' n
  report_text_lem : (k : ReportCall) → w ≡ k.text → w' ≡ k.text' → k.answer ≡ Reported.Length n → Lent w w' n

-- from place n on the bytes are the same
pub record Beyond (n : ℕ) (w w' : List ℕ) : Type 0 where
  pub length : length w' ≡ length w
  pub bytes : (k : ℕ) → n ≤ k → get_or w' k 0 ≡ get_or w k 0
