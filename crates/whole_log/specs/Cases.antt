-- P1's log and what it leaves, and buffers that are long enough: the words of the worked cases.
use Rattle.std.specs.Prelude.{ℕ, ◌≤◌, List, [], ◌∷◌, length, get_or}
use Rattle.lists.specs.Lists.{bytes}
use Rattle.lists.specs.Limits.{max_lines}
use Rattle.labels.specs.Label.{label_no, label_of}
use Rattle.trace.specs.declared.Run.{Run}
use Rattle.trace.specs.Trace.{Trace, line}
use Rattle.pairs.specs.declared.Layout.{Layout}
use Rattle.pairs.specs.declared.Layout.TheVariants.{Square, Half}
use Rattle.pairs.specs.Layout.{work_size}
use Rattle.rules.specs.Cases.{p1_file}
use Rattle.whole_log.specs.Log.{log_of}

-- the buffers of a whole-log call are long enough
pub record Long (lay : Layout) (w out : List ℕ) : Type 0 where
  pub work : work_size lay ≤ length w
  pub verdicts : max_lines ≤ length out

-- the byte of runs 0 and 1, after P1's rule and a log: pair byte 1 in the square layout, byte 0 in the half one
abbrev pub first_place : Layout → ℕ
first_place Square = 1
first_place Half = 0

abbrev pub first_pair : Layout → List ℕ → List ℕ → List ℕ → ℕ
first_pair lay log w out = get_or (log_of lay p1_file log w out).1 (first_place lay) 0

-- "Log lines `B 7 EVENING`, `B 9 TEST`, `E 9`, `E 7`", and what they leave
abbrev pub p1_log : List ℕ
p1_log = bytes "B 7 EVENING\nB 9 TEST\nE 9\nE 7\n"

abbrev pub p1_run : ℕ → ℕ → ℕ → ℕ → Run
p1_run i b e k = record { id = i; begin = line b; end = line e; label = label_no k }

abbrev pub p1_trace : Trace
p1_trace =
    record {
      runs = p1_run 7 1 4 1 ∷ p1_run 9 2 3 2 ∷ [];
      labels = label_of (bytes "EVENING") ∷ label_of (bytes "TEST") ∷ [];
      lines = 4;
    }
