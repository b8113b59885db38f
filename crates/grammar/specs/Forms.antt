-- The two forms of a line: there are bytes such that the line is their concatenation.
use Rattle.std.specs.Prelude.{ℕ, ◌≤◌, ◌≡◌, ◌≢◌, List, [], ◌++◌, length, get_or}
use Rattle.lists.specs.Lists.{bytes}
use Rattle.labels.specs.Label.{capitals}
use Rattle.lines.specs.Line.{value}
use Rattle.lines.specs.Render.{label_part}
use Rattle.grammar.specs.Written.{EachByte, Digit, IsLabel}

-- "An id is decimal digits with no leading zero (the single digit `0` has the form, but not the range)"
pub record IdForm (ds : List ℕ) : Type 0 where
  pub some : 1 ≤ length ds
  pub digits : EachByte Digit ds
  pub no_leading_zero : 2 ≤ length ds → get_or ds 0 0 ≢ 48

-- "1 to 65535"
pub record IdRange (ds : List ℕ) : Type 0 where
  pub low : 1 ≤ value ds
  pub high : value ds ≤ 65535

-- "A begin line is `B`, one space, an id, and optionally one space and a label. An end line is `E`, one space, an
-- id." "Each line ends in LF", which stands nowhere else: the id's bytes ds, and the label's bytes s, no bytes
-- where there is none
abbrev pub BeginForm : List ℕ → List ℕ → List ℕ → Type 0
BeginForm l ds s = (l ≡ bytes "B " ++ ds ++ label_part s ++ bytes "\n") × EachByte (λ b. b ≢ 10) s

abbrev pub EndForm : List ℕ → List ℕ → Type 0
EndForm l ds = l ≡ bytes "E " ++ ds ++ bytes "\n"

-- a line of one of the two forms, whose LF is among its first 40 bytes
pub data Formed (l ds s : List ℕ) : Type 0 where
  as_begin : BeginForm l ds s → IdForm ds → length l ≤ 40 → Formed l ds s
  as_end : EndForm l ds → s ≡ [] → IdForm ds → length l ≤ 40 → Formed l ds s

-- a line that is right in itself: a begin line of the id i with a label whose capitals are s, and an end line of the
-- id i. "Looking up a label must treat a to z as A to Z"
pub record Begins (l : List ℕ) (i : ℕ) (s : List ℕ) : Type 0 where
  pub digits : List ℕ
  pub written : List ℕ
  pub form : BeginForm l digits written
  pub id : IdForm digits
  pub range : IdRange digits
  pub is : value digits ≡ i
  pub capital : capitals written ≡ s
  pub label : s ≢ [] → IsLabel s

pub record Ends (l : List ℕ) (i : ℕ) : Type 0 where
  pub digits : List ℕ
  pub form : EndForm l digits
  pub id : IdForm digits
  pub range : IdRange digits
  pub is : value digits ≡ i
