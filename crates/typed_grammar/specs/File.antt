-- The rule file of a formula: "labels and nodes numbered as first completed, left before right".
use Rattle.std.specs.Prelude.{ℕ, suc, ◌+◌, ◌-◌, cond, List, [], ◌∷◌, ◌++◌, ltb, length}
use Rattle.lists.specs.Lists.{same?}
use Rattle.rules.specs.Formula.{Pairing, before, overlaps, includes, same, Formula, both, neg, exists, has, pair}
use Rattle.rules.specs.declared.Node.{Node}
use Rattle.grammar.specs.Layout.{front, labels_part, nodes_part}

-- how many nodes a formula takes
abbrev pub node_count : Formula → ℕ
node_count (both f g) = node_count f + node_count g + 1
node_count (neg f) = node_count f + 1
node_count (exists v f) = node_count f + 1
node_count (has v l) = 1
node_count (pair p v w) = 1

-- the place of a label in a list, from 0; their number where it is not among them
abbrev pub place_in : List (List ℕ) → List ℕ → ℕ
place_in [] l = 0
place_in (x ∷ xs) l = cond (same? x l) 0 (suc (place_in xs l))

-- the list once a label is in it
unfoldable pub with_label : List (List ℕ) → List ℕ → List (List ℕ)
with_label ls l = cond (ltb (place_in ls l) (length ls)) ls (ls ++ (l ∷ []))

-- the labels of a formula behind those of a list, each where it first appears
unfoldable pub labels_in : List (List ℕ) → Formula → List (List ℕ)
labels_in ls (both f g) = labels_in (labels_in ls f) g
labels_in ls (neg f) = labels_in ls f
labels_in ls (exists v f) = labels_in ls f
labels_in ls (has v l) = with_label ls l
labels_in ls (pair p v w) = ls

abbrev pub labels_of : Formula → List (List ℕ)
labels_of f = labels_in [] f

-- the paper's table of kinds: 5 before, 6 overlaps, 7 includes, 8 same
abbrev pub pair_kind : Pairing → ℕ
pair_kind before = 5
pair_kind overlaps = 6
pair_kind includes = 7
pair_kind same = 8

-- the nodes of a formula, the first of them node k; ls are the labels of the whole rule
unfoldable pub nodes_from : List (List ℕ) → ℕ → Formula → List Node
nodes_from ls k (both f g) =
    let m = k + node_count f in
    nodes_from ls k f ++ nodes_from ls m g ++ (record { kind = 1; a = m - 1; b = m + node_count g - 1 } ∷ [])
nodes_from ls k (neg f) = nodes_from ls k f ++ (record { kind = 2; a = k + node_count f - 1; b = 0 } ∷ [])
nodes_from ls k (exists v f) = nodes_from ls k f ++ (record { kind = 3; a = v; b = k + node_count f - 1 } ∷ [])
nodes_from ls k (has v l) = record { kind = 4; a = v; b = place_in ls l } ∷ []
nodes_from ls k (pair p v w) = record { kind = pair_kind p; a = v; b = w } ∷ []

unfoldable pub rule_file : Formula → List ℕ
rule_file f =
    front (length (labels_of f)) ++ labels_part (labels_of f) ++ (node_count f ∷ nodes_part (nodes_from (labels_of f) 0 f))
