-- The calls on a record in bytes: its start, one line, one line with a tally, a whole log, the relation of two runs. "20 a lent
-- buffer shorter than stated"
use Rattle.std.specs.Prelude.{ℕ, ◌<◌, ◌≤◌, ◌≡◌, Bool, true, ◌||◌, cond, List, [], ◌++◌, ltb, length}
use Rattle.lists.specs.Tells.{Tells}
use Rattle.lists.specs.Limits.{max_lines}
use Rattle.trace.specs.Trace.{Trace, no_trace, Accepted}
use Rattle.trace.specs.Record.{record_of, Valid}
use Rattle.pairs.specs.declared.Layout.{Layout}
use Rattle.pairs.specs.Layout.{work_size}
use Rattle.pairs.specs.Pairs.{work_of}
use Rattle.relations.specs.Runs.{relate_in, Answers}
use Rattle.rules.specs.declared.Rule.{Rule}
use Rattle.std.specs.Prelude.{Ok}
use Rattle.refusals.specs.Refusal.{number}
use Rattle.rules.specs.Rules.{rule_of}
use Rattle.logic.specs.declared.Verdict.{Verdict}
use Rattle.single.specs.declared.Checked.{Checked}
use Rattle.reading.specs.Left.{Left}
use Rattle.single.specs.Line.{judged, ChecksLine}
use Rattle.record_bytes.specs.Form.{record_size, record_from}
use Rattle.reading.specs.declared.Ending.TheVariants as Ending
use Rattle.reading.specs.declared.LogRead.{LogRead}
use Rattle.tallies.specs.declared.Tallied.{Tallied}
use Rattle.tallies.specs.Tally.{counts?, ChecksTallied}
use Rattle.whole_log.specs.Log.{log_of, LogStopped, ChecksLog}
use Rattle.whole_log.specs.Part.{read_part}
use Rattle.answer_numbers.specs.Numbers.{refusal, answer_number, ByLayout, mode_named}
use Rattle.answer_numbers.specs.InBytes.{record_in, line_numbered, tally_from, tallied_numbered, log_kept}

-- ── the start of a record ──
-- "it clears these bytes and answers the record of no lines, or refuses with 20": 0 or the refusal, and both
-- buffers
unfoldable pub start_numbered : Layout → List ℕ → List ℕ → ℕ × List ℕ × List ℕ
start_numbered lay b w =
    cond (ltb (length b) record_size || ltb (length w) (work_size lay)) (refusal 20, b, w) (0, record_in (record_of no_trace) b, work_of lay no_trace w)

-- the answer and both buffers, for every input; and what is started is what no lines leave
pub record StartsNumber (lay : Layout) (b w : List ℕ) (n : ℕ) (b' w' : List ℕ) : Type 0 where
  pub answer : ◌≡◌ {A = ℕ × List ℕ × List ℕ} (n, b', w') (start_numbered lay b w)
  pub meaning : n ≡ 0 → Left lay [] no_trace (record_from b') w'

-- by the number of a layout
abbrev pub StartsFor : ℕ → List ℕ → List ℕ → ℕ → List ℕ → List ℕ → Type 0
StartsFor l b w n b' w' = ByLayout l (λ lay. StartsNumber lay b w n b' w') (◌≡◌ {A = ℕ × List ℕ × List ℕ} (n, b', w') (refusal 20, b, w))

-- ── one line ──
-- The record that the bytes b hold is checked with the line. The work area is that of the single-line call, the number and the
-- record's buffer are those of its answer, and what a line that is taken leaves is what the log with the line leaves.
pub record ChecksBytes (lay : Layout) (file b w line : List ℕ) (n : ℕ) (b' w' : List ℕ) : Type 0 where
  pub checked : Checked
  pub checks : ChecksLine lay file (record_from b) w line checked w'
  pub answer : ◌≡◌ {A = ℕ × List ℕ} (n, b') (line_numbered checked b)
  pub goes_on : (x : Rule) → rule_of file ≡ Ok x → (log : List ℕ) (t : Trace) → Left lay log t (record_from b) w
      → (v : Verdict) → checked.outcome ≡ judged v → (u : Trace) × Left lay (log ++ line) u (record_from b') w'

-- the answer and both buffers, for every input: 20 comes first
pub record ChecksLineNumber (lay : Layout) (file b w line : List ℕ) (n : ℕ) (b' w' : List ℕ) : Type 0 where
  pub short : length b < record_size → ◌≡◌ {A = ℕ × List ℕ × List ℕ} (n, b', w') (refusal 20, b, w)
  pub long : record_size ≤ length b → ChecksBytes lay file b w line n b' w'

abbrev pub ChecksLineFor : ℕ → List ℕ → List ℕ → List ℕ → List ℕ → ℕ → List ℕ → List ℕ → Type 0
ChecksLineFor l file b w line n b' w' =
    ByLayout l (λ lay. ChecksLineNumber lay file b w line n b' w') (◌≡◌ {A = ℕ × List ℕ × List ℕ} (n, b', w') (refusal 20, b, w))

-- ── one line with a tally ──
-- The same with the tally that the numbers s are. For every log that leaves what is handed in, and a tally that has its counts, what a
-- line that is taken leaves is what the log with the line leaves, and the numbers are the tally of the answer.
pub record ChecksTalliedBytes (lay : Layout) (file b s w line : List ℕ) (n : ℕ) (b' s' w' : List ℕ) : Type 0 where
  pub checked : Tallied
  pub checks : ChecksTallied lay file (record_from b) (tally_from s) w line checked w'
  pub answer : ◌≡◌ {A = ℕ × List ℕ × List ℕ} (n, b', s') (tallied_numbered checked b s)
  pub goes_on : (x : Rule) → rule_of file ≡ Ok x → (log : List ℕ) (t : Trace) → Left lay log t (record_from b) w
      → counts? t (tally_from s) ≡ true → (v : Verdict) → checked.outcome ≡ judged v → (u : Trace) × Left lay (log ++ line) u (record_from b') w'
  pub counts_on : (v : Verdict) → checked.outcome ≡ judged v → tally_from s' ≡ checked.tally

abbrev pub unchanged : List ℕ → List ℕ → List ℕ → ℕ × List ℕ × List ℕ × List ℕ
unchanged b s w = (refusal 20, b, s, w)

-- the answer and the three buffers, for every input: 20 comes first
pub record ChecksTalliedNumber (lay : Layout) (file b s w line : List ℕ) (n : ℕ) (b' s' w' : List ℕ) : Type 0 where
  pub short_record : length b < record_size → ◌≡◌ {A = ℕ × List ℕ × List ℕ × List ℕ} (n, b', s', w') (unchanged b s w)
  pub short_tally : length s < 5 → ◌≡◌ {A = ℕ × List ℕ × List ℕ × List ℕ} (n, b', s', w') (unchanged b s w)
  pub long : record_size ≤ length b → 5 ≤ length s → ChecksTalliedBytes lay file b s w line n b' s' w'

abbrev pub ChecksTalliedFor : ℕ → List ℕ → List ℕ → List ℕ → List ℕ → List ℕ → ℕ → List ℕ → List ℕ → List ℕ → Type 0
ChecksTalliedFor l file b s w line n b' s' w' =
    ByLayout l (λ lay. ChecksTalliedNumber lay file b s w line n b' s' w')
    (◌≡◌ {A = ℕ × List ℕ × List ℕ × List ℕ} (n, b', s', w') (unchanged b s w))

-- ── a whole log ──
-- "it answers the record": its bytes are those of the lines that are taken
abbrev pub log_in_bytes : List ℕ → LogRead × List ℕ × List ℕ → ℕ × List ℕ × List ℕ × List ℕ
log_in_bytes b z = ((log_kept z.0 b).0, (log_kept z.0 b).1, z.1, z.2)

-- The answer and the three buffers; what they mean; and that the bytes and the work area are those that the lines taken leave: all lines
-- of the log, or those before the refused one.
pub record KeepsLog (lay : Layout) (file log b w out : List ℕ) (n : ℕ) (b' w' out' : List ℕ) : Type 0 where
  pub answer : ◌≡◌ {A = ℕ × List ℕ × List ℕ × List ℕ} (n, b', w', out') (log_in_bytes b (log_of lay file log w out))
  pub meaning : ChecksLog lay file log w out (log_of lay file log w out).0 w' out'
  pub whole : (x : Rule) → rule_of file ≡ Ok x → work_size lay ≤ length w → max_lines ≤ length out
      → (log_of lay file log w out).0.ending ≡ Ending.Read → (t : Trace) × Left lay log t (record_from b') w'
  pub stops : (x : Rule) → rule_of file ≡ Ok x → work_size lay ≤ length w → max_lines ≤ length out → (c l : ℕ)
      → (log_of lay file log w out).0.ending ≡ Ending.Refused c l
      → (s : LogStopped lay log w c l (log_of lay file log w out).0 w') × Left lay s.first.before s.first.trace (record_from b') w'

-- the answer and the three buffers, for every input: 20 comes first
pub record KeepsLogNumber (lay : Layout) (file log b w out : List ℕ) (n : ℕ) (b' w' out' : List ℕ) : Type 0 where
  pub short : length b < record_size → ◌≡◌ {A = ℕ × List ℕ × List ℕ × List ℕ} (n, b', w', out') (unchanged b w out)
  pub long : record_size ≤ length b → KeepsLog lay file log b w out n b' w' out'

abbrev pub KeepsLogFor : ℕ → ℕ → List ℕ → List ℕ → List ℕ → List ℕ → List ℕ → ℕ → List ℕ → List ℕ → List ℕ → Type 0
KeepsLogFor l m file log b w out n b' w' out' =
    ByLayout l (λ lay. KeepsLogNumber lay file (read_part (mode_named m) file log) b w out n b' w' out')
    (◌≡◌ {A = ℕ × List ℕ × List ℕ × List ℕ} (n, b', w', out') (unchanged b w out))

-- ── two runs ──
-- the number n of runs x and y of t; and what it says of them
pub record NumbersRuns (t : Trace) (x y n : ℕ) : Type 0 where
  pub answer : n ≡ answer_number (relate_in t x y)
  pub meaning : Answers t x y (relate_in t x y)

-- "Relating two runs: 21 (of the record alone), 22, 23", of the record that the bytes b hold
pub record RelatesBytes (b : List ℕ) (x y n : ℕ) : Type 0 where
  pub decided : (k : Bool) × Tells k (Valid (record_from b))
  pub known : (log : List ℕ) (t : Trace) → Accepted log t → record_from b ≡ record_of t → NumbersRuns t x y n
  pub unknown : (Valid (record_from b) → ⊥) → n ≡ refusal 21

-- the answer, for every input: 20 comes first
pub record RelatesNumber (b : List ℕ) (x y n : ℕ) : Type 0 where
  pub short : length b < record_size → n ≡ refusal 20
  pub long : record_size ≤ length b → RelatesBytes b x y n
