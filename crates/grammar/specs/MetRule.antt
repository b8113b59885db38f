-- Where a rule file meets a refusal: "the rule from its front, each part (mark, version, count, length byte, label
-- bytes, node) first for 1 and then for its own fault, then 7, 8, 9, 10, each over the whole table". What stands
-- before the fault is whole and right.
use Rattle.std.specs.Prelude.{ℕ, suc, ◌+◌, ◌*◌, ◌≤◌, ◌<◌, ◌≡◌, ◌≢◌, List, [], ◌∷◌, ◌++◌, length, get_or}
use Rattle.lists.specs.Lists.{bytes}
use Rattle.labels.specs.Label.{capitals}
use Rattle.rules.specs.declared.Node.{Node}
use Rattle.grammar.specs.Written.{WrongLabel}
use Rattle.grammar.specs.Naming.{NamedOnce, AllNamedOnce, Uses, Bound, AllBound, FiveNested}
use Rattle.grammar.specs.Layout.{InRange, UpToLabel, UpToNode}

-- "a label of wrong length", by its length byte
pub data WrongLength (n : ℕ) : Type 0 where
  zero : n ≡ 0 → WrongLength n
  above : 24 < n → WrongLength n

-- "or byte, or listed twice"; "5 does for two labels in a rule file's list that differ only in case"
pub data WrongBytes (ls : List (List ℕ)) (l : List ℕ) : Type 0 where
  wrong : WrongLabel (capitals l) → WrongBytes ls l
  twice : (i : ℕ) → i < length ls → capitals (get_or ls i []) ≡ capitals l → WrongBytes ls l

-- "node count 1 to 64"
pub data WrongCount (n : ℕ) : Type 0 where
  none : n ≡ 0 → WrongCount n
  above-64 : 64 < n → WrongCount n

pub data MetRule (file : List ℕ) (c : ℕ) : Type 0 where
  -- the mark: "1 the file ends before the next part is whole; 2 mark"
  mark_cut : length file < 3 → c ≡ 1 → MetRule file c
  mark : (m rest : List ℕ) → file ≡ m ++ rest → length m ≡ 3 → m ≢ bytes "RUL" → c ≡ 2 → MetRule file c
  -- "3 version"
  version-cut : (rest : List ℕ) → file ≡ bytes "RUL" ++ rest → length rest < 2 → c ≡ 1 → MetRule file c
  version : (low high : ℕ) (rest : List ℕ) → file ≡ bytes "RUL" ++ (low ∷ high ∷ rest) → low + 256 * high ≢ 1 → c ≡ 3
      → MetRule file c
  -- "4 a count outside its range"
  count_cut : file ≡ bytes "RUL" ++ (1 ∷ 0 ∷ []) → c ≡ 1 → MetRule file c
  count : (k : ℕ) (rest : List ℕ) → file ≡ bytes "RUL" ++ (1 ∷ 0 ∷ k ∷ rest) → 16 < k → c ≡ 4 → MetRule file c
  -- "5 a label of wrong length or byte, or listed twice": the next label's length byte, then its bytes
  length_cut : (k : ℕ) (ls : List (List ℕ)) → UpToLabel file k ls [] → length ls < k → c ≡ 1 → MetRule file c
  length_byte : (k : ℕ) (ls : List (List ℕ)) (n : ℕ) (rest : List ℕ) → UpToLabel file k ls (n ∷ rest) → length ls < k
      → WrongLength n → c ≡ 5 → MetRule file c
  label_cut : (k : ℕ) (ls : List (List ℕ)) (n : ℕ) (rest : List ℕ) → UpToLabel file k ls (n ∷ rest) → length ls < k
      → 1 ≤ n → n ≤ 24
      → length rest < n → c ≡ 1 → MetRule file c
  label : (k : ℕ) (ls : List (List ℕ)) (l rest : List ℕ) → UpToLabel file k ls ((length l ∷ l) ++ rest)
      → length ls < k → 1 ≤ length l → length l ≤ 24
      → WrongBytes ls l → c ≡ 5 → MetRule file c
  -- the node count
  nodes_cut : (ls : List (List ℕ)) → UpToLabel file (length ls) ls [] → c ≡ 1 → MetRule file c
  node_count_lem : (ls : List (List ℕ)) (n : ℕ) (rest : List ℕ) → UpToLabel file (length ls) ls (n ∷ rest) → WrongCount n
      → c ≡ 4 → MetRule file c
  -- "6 a node's kind or field outside its range (b not 0 under "not" too)"
  node_cut : (ls : List (List ℕ)) (n : ℕ) (xs : List Node) (rest : List ℕ) → UpToNode file ls n xs rest
      → length xs < n → length rest < 3 → c ≡ 1 → MetRule file c
  node : (ls : List (List ℕ)) (n : ℕ) (xs : List Node) (x : Node) (rest : List ℕ)
      → UpToNode file ls n xs (x.kind ∷ x.a ∷ x.b ∷ rest) → length xs < n
      → (InRange (length ls) (length xs) x → ⊥) → c ≡ 6 → MetRule file c
  -- "7 bytes after the last node"
  follows : (ls : List (List ℕ)) (n : ℕ) (xs : List Node) (rest : List ℕ) → UpToNode file ls n xs rest → length xs ≡ n
      → rest ≢ [] → c ≡ 7 → MetRule file c
  -- "8 a node not named exactly once"
  not_once : (ls : List (List ℕ)) (xs : List Node) → UpToNode file ls (length xs) xs [] → (n : ℕ) → suc n < length xs
      → (NamedOnce xs n → ⊥) → c ≡ 8 → MetRule file c
  -- "9 an unbound variable"
  unbound : (ls : List (List ℕ)) (xs : List Node) → UpToNode file ls (length xs) xs [] → AllNamedOnce xs
      → (n v : ℕ) → Uses xs n v → (Bound xs n v → ⊥) → c ≡ 9 → MetRule file c
  -- "10 five "some" nodes nested"
  nested : (ls : List (List ℕ)) (xs : List Node) → UpToNode file ls (length xs) xs [] → AllNamedOnce xs → AllBound xs
      → FiveNested xs → c ≡ 10 → MetRule file c
