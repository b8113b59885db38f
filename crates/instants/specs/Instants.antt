-- The instants of the lines of a log. A log that has no such line as yet has one instant for each line.
use Rattle.std.specs.Prelude.{ℕ, zero, suc, ◌+◌, Bool, cond, List, get_or, set}
use Rattle.instants.specs.declared.InstantNo.{InstantNo}

-- "The record gains an instant for each line": a scale of its own, from 1
abbrev pub instant_no : ℕ → InstantNo
instant_no n = record { 0 = n }

-- the instant of line l; 0 where there is no such line
abbrev pub instant_at : List InstantNo → ℕ → ℕ
instant_at v zero = 0
instant_at v (suc l) = (get_or v l (instant_no 0)).0

-- "1 at the first, that of the line before at a `+`, otherwise one more": the instant of the line after line l, which joins it or not
abbrev pub instant_after : List InstantNo → ℕ → Bool → ℕ
instant_after v l j = cond j (instant_at v l) (instant_at v l + 1)

-- the instants with that of the line after line l; past the last place nothing is kept
abbrev pub dated : List InstantNo → ℕ → Bool → List InstantNo
dated v l j = set v l (instant_no (instant_after v l j))
