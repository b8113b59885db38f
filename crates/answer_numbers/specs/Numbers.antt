-- Answers as numbers, for programs in other languages: "For an answer that is an enum, a definition gives this paper's number and
-- values for each case of the enum." One form for all: a refusal is 65,536 times its number, and whatever else is answered (a verdict,
-- a count of lines, a line's number, a length, a set, a relation) is below 65,536.
use Rattle.std.specs.Prelude.{ℕ, ◌+◌, ◌*◌, ◌/◌, ◌%◌, ◌≤◌, ◌≡◌, cond, ◌↔◌, eqb, Result, Ok, Err}
use Rattle.std.proofs.Math.Option.{Option, none, some}
use Rattle.refusals.specs.Refusal.{number}
use Rattle.refusals.specs.declared.Refusal.{Refusal}
use Rattle.pairs.specs.declared.Layout.{Layout}
use Rattle.pairs.specs.declared.Layout.TheVariants.{Square, Half}
use Rattle.reading.specs.declared.Ending.{Ending}
use Rattle.reading.specs.declared.Ending.TheVariants.{Read, Refused}
use Rattle.reading.specs.declared.LogRead.{LogRead}
use Rattle.single.specs.declared.Outcome.{Outcome}
use Rattle.output.specs.declared.Written.{Written}
use Rattle.whole_log.specs.declared.Mode.{Mode}
use Rattle.whole_log.specs.declared.Mode.TheVariants.{FirstFailure, Full}
use Rattle.report.specs.declared.Reported.{Reported}

-- ── refusals ──
abbrev pub refusal : ℕ → ℕ
refusal n = n * 65536

-- the number of an answer whose errors tell a number: of the value, or of the refusal of the number that the error tells
abbrev pub NumberedAs : {A E : Type 0} → (E → ℕ → Type 0) → (A → ℕ) → Result A E → ℕ → Type 0
NumberedAs tells value (Ok x) n = n ≡ value x
NumberedAs tells value (Err e) n = (c : ℕ) × tells e c × (n ≡ refusal c)

-- how an answer is read: its refusal, 0 for none, and its value
abbrev pub refusal_in : ℕ → ℕ
refusal_in n = n / 65536

abbrev pub value_in : ℕ → ℕ
value_in n = n % 65536

-- ── layouts ──
-- the layout that a number names: 0 the square one, 1 the half one, and any other number none
abbrev pub layout_named : ℕ → Option Layout
layout_named n = cond (eqb n 0) (some Square) (cond (eqb n 1) (some Half) none)

-- what is said of a layout, or of none
abbrev pub ByNamed : Option Layout → (Layout → Type 0) → Type 0 → Type 0
ByNamed (some lay) says refuses = says lay
ByNamed none says refuses = refuses

-- A call that is lent a work area and told its layout by the number n. For a number that names none it refuses: no buffer is long enough.
unfoldable pub ByLayout : ℕ → (Layout → Type 0) → Type 0 → Type 0
ByLayout n says refuses = ByNamed (layout_named n) says refuses

-- ── modes ──
-- the mode that a number names: 1 the full one, and any other number the default
abbrev pub mode_named : ℕ → Mode
mode_named n = cond (eqb n 1) Full FirstFailure

-- a number and the mode that it names: 0 stops at the first failure, 1 is the full one, and any other number counts as 0
pub record NamesMode (n : ℕ) (m : Mode) : Type 0 where
  pub answer : m ≡ mode_named n
  pub full : (m ≡ Full) ↔ (n ≡ 1)

-- ── sets of relations, and two runs ──
-- "a set, 0 to 63", and "their one relation by its number"
abbrev pub answer_number : Result ℕ Refusal → ℕ
answer_number (Ok n) = n
answer_number (Err e) = refusal (number e)

-- ── one line ──
-- "1 holds, 0 fails"
abbrev pub outcome_number : Outcome → ℕ
outcome_number Outcome.Holds = 1
outcome_number Outcome.Fails = 0
outcome_number (Outcome.Refused n) = refusal n

-- ── a whole log ──
-- how many lines are taken of a log that is read to its end. "The whole-log call adds the line number": that of the refused line, 0
-- where no line is to blame
abbrev pub ending_number : Ending → ℕ → ℕ
ending_number Read lines = lines
ending_number (Refused n l) lines = refusal n + l

abbrev pub log_number : LogRead → ℕ
log_number a = ending_number a.ending a.state.lines.0

-- ── a report ──
-- its length
abbrev pub report_number : Reported → ℕ
report_number (Reported.Length n) = n
report_number (Reported.Refused c) = refusal c

-- no report is longer than the shortest buffer that is taken
abbrev pub ReportFits : Reported → Type 0
ReportFits a = (n : ℕ) → a ≡ Reported.Length n → n ≤ 2048

-- ── a rule from a text, a text from a rule ──
-- how many bytes are written
abbrev pub written_number : Written → ℕ
written_number (Written.Length n) = n
written_number (Written.Refused c) = refusal c

-- neither a rule file nor a text is longer than the shortest buffer that is taken
abbrev pub WrittenFits : Written → Type 0
WrittenFits a = (n : ℕ) → a ≡ Written.Length n → n ≤ 4096
