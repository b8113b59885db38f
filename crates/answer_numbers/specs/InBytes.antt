-- What goes into bytes and numbers: a run's number or a set, the record of lines that are taken, a tally.
use Rattle.std.specs.Prelude.{ℕ, cond, List, [], ◌∷◌, ◌++◌, eqb, ltb, get_or, drop}
use Rattle.trace.specs.declared.Record.{Record}
use Rattle.reading.specs.declared.Ending.{Ending}
use Rattle.reading.specs.declared.LogRead.{LogRead}
use Rattle.single.specs.declared.Outcome.{Outcome}
use Rattle.single.specs.declared.Outcome.TheVariants.{Holds, Fails, Refused}
use Rattle.single.specs.declared.Checked.{Checked}
use Rattle.tallies.specs.declared.Tally.{Tally}
use Rattle.tallies.specs.declared.Tallied.{Tallied}
use Rattle.record_bytes.specs.Form.{record_size, record_bytes}
use Rattle.answer_numbers.specs.Numbers.{outcome_number, log_number}

-- ── a byte ──
-- a number as a byte: 255, which is no run and no set, for every number above it
abbrev pub as_byte : ℕ → ℕ
as_byte a = cond (ltb 255 a) 255 a

-- ── one line ──
-- the record's bytes at the front of a buffer; "no call changes a byte past those it is stated to write"
abbrev pub record_in : Record → List ℕ → List ℕ
record_in r b = record_bytes r ++ drop record_size b

-- "answers the new record and the verdict"; a refusal "hands back the same record"
abbrev pub bytes_after : Outcome → Record → List ℕ → List ℕ
bytes_after Holds r b = record_in r b
bytes_after Fails r b = record_in r b
bytes_after (Refused n) r b = b

-- the number of an answer of the single-line call, and the record's buffer
abbrev pub line_numbered : Checked → List ℕ → ℕ × List ℕ
line_numbered a b = (outcome_number a.outcome, bytes_after a.outcome a.state b)

-- ── one line with a tally ──
-- "lines, runs begun, finished, open, failing lines": five numbers in this order
abbrev pub tally_from : List ℕ → Tally
tally_from s = record { lines = get_or s 0 0; begun = get_or s 1 0; finished = get_or s 2 0; running = get_or s 3 0; failing = get_or s 4 0 }

abbrev pub tally_numbers : Tally → List ℕ
tally_numbers y = y.lines ∷ y.begun ∷ y.finished ∷ y.running ∷ y.failing ∷ []

abbrev pub tally_in : Tally → List ℕ → List ℕ
tally_in y s = tally_numbers y ++ drop 5 s

-- "updated where it stands after each accepted line"; a refusal "hands back the same record, work area and tally"
abbrev pub numbers_after : Outcome → Tally → List ℕ → List ℕ
numbers_after Holds y s = tally_in y s
numbers_after Fails y s = tally_in y s
numbers_after (Refused n) y s = s

-- the number of an answer, the record's buffer and the tally's
abbrev pub tallied_numbered : Tallied → List ℕ → List ℕ → ℕ × List ℕ × List ℕ
tallied_numbered a b s = (outcome_number a.outcome, bytes_after a.outcome a.state b, numbers_after a.outcome a.tally s)

-- ── a whole log ──
-- "keeps the record and work area of the lines before it"; "refused for 20 or the rule, it touches no buffer, names line 0"
abbrev pub bytes_left : Ending → Record → List ℕ → List ℕ
bytes_left Ending.Read r b = record_in r b
bytes_left (Ending.Refused n l) r b = cond (eqb l 0) b (record_in r b)

-- the number of an answer of the whole-log call, and the record's buffer
abbrev pub log_kept : LogRead → List ℕ → ℕ × List ℕ
log_kept a b = (log_number a, bytes_left a.ending a.state b)
