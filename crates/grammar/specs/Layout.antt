-- A rule file as bytes, part after part: there are labels and nodes such that the file is their concatenation.
use Rattle.std.specs.Prelude.{ℕ, ◌≤◌, ◌<◌, ◌≡◌, ◌≢◌, List, [], ◌∷◌, ◌++◌, length, get_or}
use Rattle.lists.specs.Lists.{bytes}
use Rattle.labels.specs.Label.{capitals}
use Rattle.rules.specs.declared.Node.{Node}
use Rattle.grammar.specs.Written.{IsLabel}
use Rattle.grammar.specs.Naming.{node_of}

-- "the mark `RUL`; version, 16 bits, low byte first, equal to 1; label count"
abbrev pub front : ℕ → List ℕ
front k = bytes "RUL" ++ (1 ∷ 0 ∷ k ∷ [])

-- "each label as a length byte and its bytes"
abbrev pub labels_part : List (List ℕ) → List ℕ
labels_part [] = []
labels_part (l ∷ ls) = (length l ∷ l) ++ labels_part ls

-- "nodes of three bytes: kind, a, b"
abbrev pub nodes_part : List Node → List ℕ
nodes_part [] = []
nodes_part (x ∷ xs) = x.kind ∷ x.a ∷ x.b ∷ nodes_part xs

-- labels that are right: each is a label, "none listed twice", of which their capitals decide
pub record RightLabels (ls : List (List ℕ)) : Type 0 where
  pub each : (i : ℕ) → i < length ls → IsLabel (capitals (get_or ls i []))
  pub none_twice : (i j : ℕ) → i < j → j < length ls → capitals (get_or ls i []) ≢ capitals (get_or ls j [])

-- The table of kinds, for node n of a file with k labels. "A child is the number of an earlier node. Variables are 0
-- to 3."
pub data InRange (k n : ℕ) (x : Node) : Type 0 where
  and : x.kind ≡ 1 → x.a < n → x.b < n → InRange k n x
  not : x.kind ≡ 2 → x.a < n → x.b ≡ 0 → InRange k n x
  some : x.kind ≡ 3 → x.a ≤ 3 → x.b < n → InRange k n x
  has_label : x.kind ≡ 4 → x.a ≤ 3 → x.b < k → InRange k n x
  between : 5 ≤ x.kind → x.kind ≤ 8 → x.a ≤ 3 → x.b ≤ 3 → InRange k n x

abbrev pub RightNodes : ℕ → List Node → Type 0
RightNodes k xs = (n : ℕ) → n < length xs → InRange k n (node_of xs n)

-- the file up to a label or the node count: of k labels the first ones, ls, are whole and right, and rest follows
pub record UpToLabel (file : List ℕ) (k : ℕ) (ls : List (List ℕ)) (rest : List ℕ) : Type 0 where
  pub is : file ≡ front k ++ labels_part ls ++ rest
  -- "label count 0 to 16"
  pub count : k ≤ 16
  pub labels : RightLabels ls

-- the file up to a node or its end: the labels are whole and right, of n nodes the first ones, xs, are, and rest
-- follows
pub record UpToNode (file : List ℕ) (ls : List (List ℕ)) (n : ℕ) (xs : List Node) (rest : List ℕ) : Type 0 where
  pub is : file ≡ front (length ls) ++ labels_part ls ++ (n ∷ nodes_part xs) ++ rest
  pub count : length ls ≤ 16
  pub labels : RightLabels ls
  -- "node count 1 to 64"
  pub some : 1 ≤ n
  pub few : n ≤ 64
  pub nodes : RightNodes (length ls) xs
