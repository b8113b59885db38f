-- How the code works, not what it means.
-- Labels as pieces of the text, and lists of labels.
use Rattle.std.specs.Prelude.{ℕ, ◌+◌, ◌-◌, ◌≤◌, ◌≡◌, Bool, true, ◌&&◌, List, [], ◌∷◌, length, take, drop}
use Rattle.lists.specs.Lists.{up_to}
use Rattle.labels.specs.Label.{capitals, label_form?}
use Rattle.typed_formula.specs.Meaning.{label_text}
use Rattle.typed_grammar.specs.File.{place_in}

-- the bytes from a place to the first quote end at r
pub record EndsLabel (text : List ℕ) (at r : ℕ) : Type 0 where
  pub bytes : take (r - at) (drop at text) ≡ up_to 39 (drop at text)
  pub ahead : at ≤ r
  pub inside : r ≤ length text

-- the bytes of a label as it is written: the piece of the text that starts at place p
pub record CutAt (text : List ℕ) (x : List ℕ) (p : ℕ) : Type 0 where
  pub inside : p + length x ≤ length text
  pub piece : x ≡ take (length x) (drop p text)

pub record Cut (text : List ℕ) (n : ℕ) (x : List ℕ) : Type 0 where
  pub bytes : capitals x ≡ label_text text n
  pub size : length x ≡ length (label_text text n)
  pub stands : CutAt text x (length text - n)

-- the labels at places
abbrev pub texts : List ℕ → List ℕ → List (List ℕ)
texts text [] = []
texts text (p ∷ ps) = label_text text p ∷ texts text ps

-- the number of a label among those at places
pub record Finds (text places : List ℕ) (n r : ℕ) : Type 0 where
  pub number : r ≡ place_in (texts text places) (label_text text n)
  pub few : r ≤ length places

-- "A label is 1 to 24 bytes from A to Z, 0 to 9 and underscore."
abbrev pub good_labels? : List (List ℕ) → Bool
good_labels? [] = true
good_labels? (l ∷ ls) = label_form? l && good_labels? ls
