-- The whole-log call: "One call takes a rule, a whole log, a work area and a verdict buffer of at least 256 bytes, a byte a line,
-- 1 holds, 0 fails, the rest untouched; it answers the record. It starts a record itself."
use Rattle.std.specs.Prelude.{ℕ, suc, ◌+◌, ◌<◌, ◌≤◌, ◌≡◌, cond, ◌||◌, List, [], ◌∷◌, ◌++◌, ltb, length, get_or, set, take}
use Rattle.lists.specs.Limits.{max_lines}
use Rattle.lines.specs.Log.{lines_of}
use Rattle.trace.specs.Trace.{Trace, next, refused, no_trace, steps, Accepted, step}
use Rattle.trace.specs.Record.{record_of}
use Rattle.pairs.specs.declared.Layout.{Layout}
use Rattle.pairs.specs.Layout.{work_size}
use Rattle.pairs.specs.Pairs.{work_of}
use Rattle.rules.specs.declared.Rule.{Rule}
use Rattle.std.specs.Prelude.{Ok}
use Rattle.rules.specs.Rules.{rule_of, formula_of}
use Rattle.logic.specs.Verdict.{verdict_byte, verdict_of, Says}
use Rattle.reading.specs.declared.Ending.TheVariants.{Read, Refused}
use Rattle.reading.specs.declared.LogRead.{LogRead}
use Rattle.reading.specs.Reading.{RefusedAs, by_answer, ended}
use Rattle.single.specs.Line.{with_rule}

-- The lines that are left, after those that t stands for: the answer, the work area and the verdict buffer. "The whole-log call
-- adds the line number, stops there, and keeps the record and work area of the lines before it, their verdict bytes, and the rest
-- of the verdict buffer untouched".
unfoldable pub lines_from : Layout → List ℕ → Rule → Trace → List (List ℕ) → List ℕ → List ℕ → LogRead × List ℕ × List ℕ
lines_from lay file x t [] w out = (ended t Read, work_of lay t w, out)
lines_from lay file x t (l ∷ ls) w out =
    by_answer (step (next t) l)
    (λ u. lines_from lay file x u ls w (set out t.lines (verdict_byte (verdict_of u (formula_of file x)))))
    (λ c. (ended t (Refused c (t.lines + 1)), work_of lay t w, out))

-- "refused for 20 or the rule, it touches no buffer, names line 0 and answers the record of no lines"
abbrev pub not_read : ℕ → LogRead
not_read n = ended no_trace (Refused n 0)

-- 20 for either buffer, then the rule, then the lines
unfoldable pub log_of : Layout → List ℕ → List ℕ → List ℕ → List ℕ → LogRead × List ℕ × List ℕ
log_of lay file log w out =
    cond (ltb (length w) (work_size lay) || ltb (length out) max_lines) (not_read 20, w, out)
    (with_rule (rule_of file) (λ n. (not_read n, w, out)) (λ x. lines_from lay file x no_trace (lines_of log) w out))

-- ── what the answer says of the log ──
-- every line is taken: the log is accepted, and its record and pair bytes are answered
pub record LogTaken (lay : Layout) (log w : List ℕ) (a : LogRead) (w' : List ℕ) : Type 0 where
  pub trace : Trace
  pub accepted : Accepted log trace
  pub state : a.state ≡ record_of trace
  pub pairs : w' ≡ work_of lay trace w

-- line n of the log, and the lines before it, which are an accepted log
pub record LineAt (log : List ℕ) (n : ℕ) : Type 0 where
  pub before : List ℕ
  pub line : List ℕ
  pub after : List (List ℕ)
  pub trace : Trace
  pub accepted : Accepted before trace
  pub lines : lines_of log ≡ lines_of before ++ (line ∷ after)
  pub number : n ≡ length (lines_of before) + 1

-- line n is refused with c, by its own bytes or by the lines before it, and these leave what is answered
pub record LogStopped (lay : Layout) (log w : List ℕ) (c n : ℕ) (a : LogRead) (w' : List ℕ) : Type 0 where
  pub first : LineAt log n
  pub why : RefusedAs c (step (next first.trace) first.line)
  pub state : a.state ≡ record_of first.trace
  pub pairs : w' ≡ work_of lay first.trace w

-- the verdict byte b of a line, where the lines up to it leave u
pub record LineByte (file : List ℕ) (x : Rule) (u : Trace) (b : ℕ) : Type 0 where
  pub byte : b ≡ verdict_byte (verdict_of u (formula_of file x))
  pub verdict : Says u (formula_of file x) (verdict_of u (formula_of file x))

pub record LogMeans (lay : Layout) (file : List ℕ) (x : Rule) (log w out : List ℕ) (a : LogRead) (w' out' : List ℕ) : Type 0 where
  pub whole : a.ending ≡ Read → LogTaken lay log w a w'
  pub stops : (c n : ℕ) → a.ending ≡ Refused c n → LogStopped lay log w c n a w'
  -- a byte a line, of every line that is taken
  pub verdicts : (k : ℕ) (u : Trace) → k < length (lines_of log) → steps (next no_trace) (take (suc k) (lines_of log)) ≡ next u → LineByte file x u (get_or out' k 0)
  -- "the rest untouched"
  pub rest : (k : ℕ) → a.state.lines.0 ≤ k → get_or out' k 0 ≡ get_or out k 0
  pub size : length out' ≡ length out

-- the contract, for every input; and what the answer means where the rule is taken and the buffers are long enough
pub record ChecksLog (lay : Layout) (file log w out : List ℕ) (a : LogRead) (w' out' : List ℕ) : Type 0 where
  pub answer : ◌≡◌ {A = LogRead × List ℕ × List ℕ} (a, w', out') (log_of lay file log w out)
  pub meaning : (x : Rule) → rule_of file ≡ Ok x → work_size lay ≤ length w → max_lines ≤ length out → LogMeans lay file x log w out a w' out'
