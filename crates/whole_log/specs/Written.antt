-- How the code works, not what it means.
-- The verdict bytes of a log's lines, written at once, and the first lines of a log.
use Rattle.std.specs.Prelude.{ℕ, ◌+◌, ◌<◌, ◌≤◌, ◌≡◌, cond, List, eqb, length, get_or, take}
use Rattle.lines.specs.Log.{lines_of, flat}
use Rattle.logic.specs.declared.Verdict.{Verdict}
use Rattle.logic.specs.Verdict.{verdict_byte}

-- "a byte a line, 1 holds, 0 fails, the rest untouched": the bytes of the first n lines, line k with the verdict y k; "lines from 1"
pub record Written (y : ℕ → Verdict) (n : ℕ) (out out' : List ℕ) : Type 0 where
  pub bytes : (k : ℕ) → k < n → get_or out' k 0 ≡ verdict_byte (y (k + 1))
  pub rest : (k : ℕ) → n ≤ k → get_or out' k 0 ≡ get_or out k 0
  pub size : length out' ≡ length out

-- the first n of the lines, all of them for 0
abbrev pub first_or_all : ℕ → List (List ℕ) → List (List ℕ)
first_or_all n ls = cond (eqb n 0) ls (take n ls)

-- e is the place in the log where its first n lines end
pub record EndsLines (log : List ℕ) (n e : ℕ) : Type 0 where
  pub within : e ≤ length log
  pub bytes : take e log ≡ flat (take n (lines_of log))
