-- Where a line meets a refusal by its own bytes: 11, then 12, then 13.
use Rattle.std.specs.Prelude.{ℕ, ◌≤◌, ◌≡◌, List, length}
use Rattle.labels.specs.Label.{capitals}
use Rattle.grammar.specs.Written.{WrongLabel}
use Rattle.grammar.specs.Forms.{IdRange, Formed}

pub data MetBytes (l : List ℕ) (c : ℕ) : Type 0 where
  -- "11 a line not of the two forms, or whose LF is not among its first 40 bytes"
  no_form : ((ds s : List ℕ) → Formed l ds s → ⊥) → c ≡ 11 → MetBytes l c
  -- "12 id outside 1 to 65535"
  no_range : (ds s : List ℕ) → Formed l ds s → (IdRange ds → ⊥) → c ≡ 12 → MetBytes l c
  -- "13 label (all bytes after the second space, at least one) with a wrong byte or above 24 bytes"; "13 no longer meet
  -- lower-case letters"
  no_label : (ds s : List ℕ) → Formed l ds s → IdRange ds → 1 ≤ length s → WrongLabel (capitals s) → c ≡ 13
      → MetBytes l c
