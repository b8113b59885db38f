-- How the code works, not what it means.
-- The verdicts of all lines of a log.
use Rattle.std.specs.Prelude.{ℕ, zero, suc, ◌<◌, ◌≤◌, ◌≡◌, Bool, true, false, cond, List, eqb, get_or, take}
use Rattle.lists.specs.Limits.{max_runs}
use Rattle.sets.specs.Sets.{mem}
use Rattle.sets.specs.declared.RunSet.{RunSet}
use Rattle.lines.specs.Log.{lines_of}
use Rattle.trace.specs.declared.Record.{Record}
use Rattle.trace.specs.Trace.{Trace, next, no_trace, steps, Accepted}
use Rattle.trace.specs.Record.{record_of}
use Rattle.rules.specs.declared.Rule.{Rule}
use Rattle.rules.specs.Rules.{formula_of}
use Rattle.logic.specs.declared.Verdict.{Verdict}
use Rattle.logic.specs.declared.Verdict.TheVariants.{Holds, Fails}
use Rattle.logic.specs.Verdict.{Says}
use Rattle.timeline.specs.declared.Timeline.{Timeline}

-- the truth value once n runs are finished
abbrev pub truth_after : Bool → RunSet → ℕ → Bool
truth_after first moments zero = first
truth_after first moments (suc m) = mem moments m

-- the verdict of line l, by how many runs are finished then
unfoldable pub verdict_at : Timeline → ℕ → Verdict
verdict_at x l = cond (truth_after x.first x.moments (get_or x.done l 0)) Holds Fails

-- "At most 128 runs": no line has more that are finished
abbrev pub FitsRuns : Timeline → Type 0
FitsRuns x = (l : ℕ) → get_or x.done l 0 ≤ max_runs

-- every line from one on and before k holds; "lines from 1"
abbrev pub HoldsBefore : Timeline → ℕ → ℕ → Type 0
HoldsBefore y line k = (l : ℕ) → 0 < l → line ≤ l → l < k → verdict_at y l ≡ Holds

-- What judging the lines from one on answers for a rule and the record of an accepted log. "judged by its own bytes and the lines
-- before it": at each line k it is the verdict of the log's first k lines. Where the judging may stop, behind the first line that
-- fails the answer is left free.
pub record JudgesFrom (file : List ℕ) (x : Rule) (r : Record) (line : ℕ) (stop : Bool) (y : Timeline) : Type 0 where
  pub fits : FitsRuns y
  pub says : (log : List ℕ) (u : Trace) → Accepted log u → r ≡ record_of u → (k : ℕ) (t : Trace) → line ≤ k → k ≤ u.lines
      → (stop ≡ true → HoldsBefore y line k) → steps (next no_trace) (take k (lines_of log)) ≡ next t → Says t (formula_of file x) (verdict_at y k)

-- what judging all lines answers
abbrev pub JudgesAll : List ℕ → Rule → Record → Timeline → Type 0
JudgesAll file x r = JudgesFrom file x r 0 false

-- what judging the last line answers: the verdict of the whole log
abbrev pub JudgesLast : List ℕ → Rule → Record → Verdict → Type 0
JudgesLast file x r w = (log : List ℕ) (u : Trace) → Accepted log u → r ≡ record_of u → Says u (formula_of file x) w

-- ── the first line that fails ──
-- line k is not behind line n, where there is a line n
abbrev pub NotBehind : ℕ → ℕ → Type 0
NotBehind n k = 0 < n → k ≤ n

-- the verdict of a line up to the first that fails, which is n, or 0 where none does
abbrev pub verdict_up_to : ℕ → ℕ → Verdict
verdict_up_to n k = cond (eqb k n) Fails Holds

-- of the first lines by a timeline, n is the first that fails, 0 where none does
pub record FirstFails (y : Timeline) (lines n : ℕ) : Type 0 where
  pub low : n ≤ lines
  pub verdict : (k : ℕ) → 0 < k → k ≤ lines → NotBehind n k → verdict_at y k ≡ verdict_up_to n k

-- the same of the lines of the log that left a record, by the logic
pub record FindsFailing (file : List ℕ) (x : Rule) (r : Record) (n : ℕ) : Type 0 where
  pub low : n ≤ r.lines.0
  pub says : (log : List ℕ) (u : Trace) → Accepted log u → r ≡ record_of u → (k : ℕ) (t : Trace) → 0 < k → k ≤ u.lines → NotBehind n k
      → steps (next no_trace) (take k (lines_of log)) ≡ next t → Says t (formula_of file x) (verdict_up_to n k)
