-- How the code works, not what it means.
-- The rule file of a table of nodes and its labels.
use Rattle.std.specs.Prelude.{ℕ, zero, suc, ◌+◌, ◌*◌, ◌<◌, ◌≤◌, ◌≡◌, cond, List, [], ◌∷◌, ◌++◌, eqb, length, get_or, replicate}
use Rattle.grammar.specs.Layout.{front, labels_part}
use Rattle.atoms.specs.Tree.{Tree, size}
use Rattle.atoms.specs.Emit.{emit}
use Rattle.typed_formula.specs.Meaning.{label_text, formula_for}
use Rattle.typed_grammar.specs.File.{place_in}
use Rattle.typed_grammar.specs.File.{labels_of}

-- "each label as a length byte and its bytes"
abbrev pub label_bytes : List ℕ → List ℕ
label_bytes l = (length l ∷ []) ++ l

-- the second field of a node; under "has label", the label's "place in the file's label list, from 0"
abbrev pub second : List (List ℕ) → List ℕ → ℕ → ℕ → ℕ
second ls text kind b = cond (eqb kind 4) (place_in ls (label_text text b)) b

-- "nodes of three bytes: kind, a, b"
abbrev pub node_bytes : List (List ℕ) → List ℕ → List ℕ → ℕ → List ℕ
node_bytes ls text tb i = get_or tb (3 * i) 0 ∷ get_or tb (3 * i + 1) 0 ∷ second ls text (get_or tb (3 * i) 0) (get_or tb (3 * i + 2) 0) ∷ []

unfoldable pub nodes_bytes : List (List ℕ) → List ℕ → List ℕ → ℕ → List ℕ
nodes_bytes ls text tb zero = []
nodes_bytes ls text tb (suc n) = nodes_bytes ls text tb n ++ node_bytes ls text tb n

unfoldable pub file_from : List ℕ → List ℕ → ℕ → List (List ℕ) → List ℕ
file_from text tb n ls = ((front (length ls) ++ labels_part ls) ++ (n ∷ [])) ++ nodes_bytes ls text tb n

-- the file of a text that has a tree
unfoldable pub file_of : List ℕ → Tree → List ℕ
file_of text t = file_from text (emit (replicate 192 0) 0 [] t) (size t) (labels_of (formula_for text [] t))

-- ── what fits in a file ──
abbrev pub Short : List ℕ → List ℕ → Type 0
Short text places = (i : ℕ) → i < length places → length (label_text text (get_or places i 0)) ≤ 24

pub record Fit (text tb : List ℕ) (n : ℕ) (places : List ℕ) : Type 0 where
  pub nodes : n ≤ 64
  pub labels : length places ≤ 16
  pub whole : 192 ≤ length tb
  pub short : Short text places
  pub kinds : (i : ℕ) → i < n → get_or tb (3 * i) 0 < 256
  pub firsts : (i : ℕ) → i < n → get_or tb (3 * i + 1) 0 < 256
  pub seconds : (i : ℕ) → i < n → (get_or tb (3 * i) 0 ≡ 4 → ⊥) → get_or tb (3 * i + 2) 0 < 256
