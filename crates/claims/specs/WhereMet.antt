-- Where each refusal is met: for each call, what makes it answer the number c. "Order: 20; then the rule from its
-- front ..; then 21; 24; then the line": each case can only be met where no number before it is.
use Rattle.std.specs.Prelude.{ℕ, ◌+◌, ◌≤◌, ◌<◌, ◌≡◌, List, length}
use Rattle.lists.specs.Limits.{max_lines}
use Rattle.trace.specs.declared.Record.{Record}
use Rattle.trace.specs.Trace.{Trace, Accepted}
use Rattle.trace.specs.Record.{record_of, Valid}
use Rattle.pairs.specs.declared.Layout.{Layout}
use Rattle.pairs.specs.Layout.{work_size}
use Rattle.relations.specs.Runs.{FinishedRun}
use Rattle.reading.specs.Left.{Left, Unknown}
use Rattle.whole_log.specs.Log.{LineAt}
use Rattle.tallies.specs.declared.Tally.{Tally}
use Rattle.trace.specs.Orderly.{finished_runs}
use Rattle.accepted_logs.specs.MetAfter.{MetAfter}
use Rattle.grammar.specs.MetRule.{MetRule}

-- ── the calls on one line ──
-- a rule file that meets no refusal
abbrev pub Ruled : List ℕ → Type 0
Ruled file = (c : ℕ) → MetRule file c → ⊥

-- 20, the rule, 21, and then what is met after the lines that leave the record and the work area
pub data Met (lay : Layout) (file : List ℕ) (r : Record) (w : List ℕ) (after : Trace → ℕ → Type 0) (c : ℕ)
    : Type 0 where
  -- "20 a lent buffer shorter than stated"
  short : length w < work_size lay → c ≡ 20 → Met lay file r w after c
  -- "then the rule from its front": 1 to 10
  rule : work_size lay ≤ length w → MetRule file c → Met lay file r w after c
  -- "21 no sequence of accepted lines leaves the record handed in, or the pair bytes are not that record's"
  unknown : work_size lay ≤ length w → Ruled file → Unknown lay r w → c ≡ 21 → Met lay file r w after c
  then : work_size lay ≤ length w → Ruled file → (log : List ℕ) (t : Trace) → Left lay log t r w → after t c
      → Met lay file r w after c

-- the counts of a tally are those of the lines that t stands for
pub record Counts (t : Trace) (y : Tally) : Type 0 where
  pub lines : y.lines ≡ t.lines
  pub begun : y.begun ≡ length t.runs
  pub finished : y.finished ≡ finished_runs t.runs
  pub balance : y.begun ≡ y.finished + y.running
  pub failing : y.failing ≤ y.lines

-- "24 a tally whose first four counts are not the record's, or whose failing lines exceed its lines", then the line
pub data MetTally (y : Tally) (line : List ℕ) (t : Trace) (c : ℕ) : Type 0 where
  wrong : (Counts t y → ⊥) → c ≡ 24 → MetTally y line t c
  right : Counts t y → MetAfter t line c → MetTally y line t c

-- ── the whole-log call ──
-- the call names line n: 0 before any line is read
pub data MetLog (lay : Layout) (file log w out : List ℕ) (c n : ℕ) : Type 0 where
  short_work : length w < work_size lay → c ≡ 20 → n ≡ 0 → MetLog lay file log w out c n
  short_verdicts : length out < max_lines → c ≡ 20 → n ≡ 0 → MetLog lay file log w out c n
  log-rule : work_size lay ≤ length w → max_lines ≤ length out → MetRule file c → n ≡ 0
      → MetLog lay file log w out c n
  log_line : work_size lay ≤ length w → max_lines ≤ length out → Ruled file
      → (f : LineAt log n) → MetAfter f.trace f.line c → MetLog lay file log w out c n

-- ── the other calls ──
-- relating runs a and b of a record: "21 (of the record alone), 22, 23"
pub data MetRelate (r : Record) (a b c : ℕ) : Type 0 where
  relate-unknown : (Valid r → ⊥) → c ≡ 21 → MetRelate r a b c
  -- "22 a run number with no finished run"
  relate-unfinished : (log : List ℕ) (t : Trace) → Accepted log t → r ≡ record_of t
      → (FinishedRun t a × FinishedRun t b → ⊥)
      → c ≡ 22 → MetRelate r a b c
  -- "23 the same finished run twice"
  relate_same : (log : List ℕ) (t : Trace) → Accepted log t → r ≡ record_of t → FinishedRun t a → a ≡ b → c ≡ 23
      → MetRelate r a b c
