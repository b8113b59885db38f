-- How the code works, not what it means: the instants of a log in a column of numbers.
use Rattle.std.specs.Prelude.{ℕ, Bool, List, map, set}
use Rattle.instants.specs.declared.InstantNo.{InstantNo}
use Rattle.instants.specs.Instants.{instant_no, instant_after}

-- the instants that a column stands for
unfoldable pub instants_in : List ℕ → List InstantNo
instants_in v = map instant_no v

-- the column with the instant of the line after line l; past the last place nothing is kept
abbrev pub dated_in : List ℕ → ℕ → Bool → List ℕ
dated_in v l j = set v l (instant_after (instants_in v) l j)
