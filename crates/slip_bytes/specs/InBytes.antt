-- Slips in bytes and their answers as numbers, for programs in other languages: a byte a run, and the number of runs. A
-- refusal is 65,536 times its number, as with every other answer.
use Rattle.std.specs.Prelude.{ℕ, ◌≡◌, Bool, Option, Result, List, ◌++◌, map, length, take, drop}
use Rattle.lists.specs.Lists.{pad}
use Rattle.rules.specs.Limits.{max_nested}
use Rattle.slip_form.specs.declared.Slip.{Slip}
use Rattle.slip_form.specs.Slips.{run_no, slip_runs}
use Rattle.std.specs.Prelude.{Some, None, Ok, Err, true, false}
use Rattle.refusals.specs.Refusal.{number}
use Rattle.slips.specs.Answers.{Finding, Passing}
use Rattle.answer_numbers.specs.Numbers.{refusal}

-- the slip that bytes are: as many runs as there are bytes, and no slip has more than four places
abbrev pub slip_from : List ℕ → Slip
slip_from b = record { count = length b; run = pad (run_no 0) max_nested (map run_no (take max_nested b)) }

-- run numbers in the first bytes; the others stay
abbrev pub runs_in : List ℕ → List ℕ → List ℕ
runs_in ks b = ks ++ drop (length ks) b

-- the number of an answer, and the bytes that a slip is put into: how many runs the first slip has; 0 for none
abbrev pub found_numbered : Finding → List ℕ → ℕ × List ℕ
found_numbered (Ok (Some x)) b = (x.count, runs_in (slip_runs x) b)
found_numbered (Ok None) b = (0, b)
found_numbered (Err e) b = (refusal (number e), b)

-- the same with errors that tell a number: that of the refusal
abbrev pub FoundAs : {E : Type 0} → (E → ℕ → Type 0) → Result (Option Slip) E → List ℕ → ℕ × List ℕ → Type 0
FoundAs tells (Ok o) b z = z ≡ found_numbered (Ok o) b
FoundAs tells (Err e) b z = (c : ℕ) × tells e c × (z ≡ (refusal c, b))

-- 1 it passes, 0 it does not
abbrev pub passing_number : Passing → ℕ
passing_number (Ok true) = 1
passing_number (Ok false) = 0
passing_number (Err e) = refusal (number e)

-- whether a slip passes, as a number
abbrev pub passes_number : Bool → ℕ
passes_number true = 1
passes_number false = 0
