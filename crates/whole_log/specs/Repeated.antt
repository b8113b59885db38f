-- The single-line call, repeated over lines: each call is handed the record and the work area that the call before it left, and its
-- verdict byte goes to the place of its line. A refused line ends it.
use Rattle.std.specs.Prelude.{ℕ, ◌+◌, ◌≡◌, List, [], ◌∷◌, set}
use Rattle.trace.specs.declared.Record.{Record}
use Rattle.pairs.specs.declared.Layout.{Layout}
use Rattle.logic.specs.declared.Verdict.{Verdict}
use Rattle.logic.specs.Verdict.{verdict_byte}
use Rattle.single.specs.declared.Outcome.TheVariants as Outcome
use Rattle.single.specs.declared.Checked.{Checked}
use Rattle.reading.specs.declared.Ending.{Ending}
use Rattle.reading.specs.declared.Ending.TheVariants.{Read, Refused}
use Rattle.reading.specs.declared.LogRead.{LogRead}
use Rattle.single.specs.Line.{judged, ChecksLine}

abbrev pub Result : Type 0
Result = LogRead × List ℕ × List ℕ

abbrev pub ended_at : Record → Ending → List ℕ → List ℕ → Result
ended_at r e w out = (record { state = r; ending = e }, w, out)

-- an answer that the call can give by its contract
pub record Answered (lay : Layout) (file : List ℕ) (r : Record) (w line : List ℕ) : Type 0 where
  pub checked : Checked
  pub work : List ℕ
  pub checks : ChecksLine lay file r w line checked work

-- what the calls on the lines give, one after another: each has an answer, and whatever answers c and v they have by their contract
unfoldable pub Repeats : Layout → List ℕ → Record → List ℕ → List (List ℕ) → List ℕ → Result → Type 0
Repeats lay file r w [] out z = z ≡ ended_at r Read w out
Repeats lay file r w (l ∷ ls) out z =
    Answered lay file r w l
    × ((c : Checked) (v : List ℕ) → ChecksLine lay file r w l c v
    → ((y : Verdict) → c.outcome ≡ judged y → Repeats lay file c.state v ls (set out r.lines.0 (verdict_byte y)) z)
    × ((n : ℕ) → c.outcome ≡ Outcome.Refused n → z ≡ ended_at c.state (Refused n (r.lines.0 + 1)) v out))
