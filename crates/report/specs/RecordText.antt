-- How the code works, not what it means: the text of a record with its verdict bytes.
use Rattle.std.specs.Prelude.{ℕ, zero, suc, ◌+◌, ◌≤◌, ◌≡◌, cond, List, [], ◌++◌, eqb, get_or}
use Rattle.trace.specs.Trace.{Trace}
use Rattle.trace.specs.Record.{record_of, Bounded}
use Rattle.reading.specs.declared.Ending.{Ending}
use Rattle.reading.specs.declared.LogRead.{LogRead}
use Rattle.text_pieces.specs.Pieces.{letter_line}
use Rattle.text_pieces.specs.Writing.{WritesFew, byte_letter, ending_text, unread?, LineLow}
use Rattle.tallies.specs.declared.Tally.{Tally}
use Rattle.tallies.specs.Tally.{tally_of}
use Rattle.report.specs.Text.{tally_text}

-- ── the text of verdict bytes ──
-- "1 holds, 0 fails"
abbrev pub byte_fails : ℕ → ℕ
byte_fails b = cond (eqb b 1) 0 1

-- the lines of the first verdict bytes, and how many of them fail
unfoldable pub lines_to : List ℕ → ℕ → List ℕ
lines_to v zero = []
lines_to v (suc k) = lines_to v k ++ letter_line (suc k) (byte_letter (get_or v k 0))

unfoldable pub fails_to : List ℕ → ℕ → ℕ
fails_to v zero = 0
fails_to v (suc k) = fails_to v k + byte_fails (get_or v k 0)

-- ── the text of a record ──
unfoldable pub record_text : Trace → Ending → List ℕ → List ℕ
record_text t e v = lines_to v t.lines ++ (ending_text e ++ cond (unread? e) [] (tally_text (tally_of t (fails_to v t.lines))))

-- ── numbers that can be printed ──
pub record Printable (y : Tally) : Type 0 where
  pub lines : y.lines ≤ 999
  pub begun : y.begun ≤ 999
  pub finished : y.finished ≤ 999
  pub running : y.running ≤ 999
  pub failing : y.failing ≤ 999

-- what a whole-log call answers is the record of some trace
pub record OfTrace (a : LogRead) : Type 0 where
  pub trace : Trace
  pub bounded : Bounded trace
  pub state : a.state ≡ record_of trace
  pub line : LineLow a.ending

-- the text of the record, from the front of the buffer on: at most 256 lines of 6 bytes, one of 9 and one of 22
abbrev pub PrintsRecord : LogRead → List ℕ → List ℕ → List ℕ → ℕ → Type 0
PrintsRecord a v text text' n = (t : Trace) → a.state ≡ record_of t → WritesFew 1567 (record_text t a.ending v) text 0 text' n
