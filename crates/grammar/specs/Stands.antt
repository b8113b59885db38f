-- What a rule file that is taken is, and the formula that it stands for, read off its nodes and labels by the paper's
-- table of kinds:
--   kind     node                        a         b
--   1        and                         child     child
--   2        not                         child     0
--   3        some                        variable  child
--   4        has label                   variable  place in the file's label list, from 0
--   5, 6, 7  before, overlaps, includes  variable  variable
--   8        same                        variable  variable
use Rattle.std.specs.Prelude.{ℕ, suc, ◌-◌, ◌<◌, ◌≡◌, List, [], length, get_or}
use Rattle.labels.specs.Label.{capitals}
use Rattle.rules.specs.declared.Node.{Node}
use Rattle.rules.specs.Formula.{before, overlaps, includes, same, Formula, both, neg, exists, has, pair}
use Rattle.grammar.specs.Naming.{node_of, AllNamedOnce, OnePath, AllBound, FiveNested}
use Rattle.grammar.specs.Layout.{UpToNode}

-- node n of the table xs stands for the formula, which has the capitals of labels; ls are the file's labels
unfoldable pub Stands : List (List ℕ) → List Node → ℕ → Formula → Type 0
-- 1 and: child, child
Stands ls xs n (both f g) =
    ((node_of xs n).kind ≡ 1) × Stands ls xs (node_of xs n).a f × Stands ls xs (node_of xs n).b g
-- 2 not: child, 0
Stands ls xs n (neg f) = ((node_of xs n).kind ≡ 2) × Stands ls xs (node_of xs n).a f
-- 3 some: variable, child
Stands ls xs n (exists v f) =
    ((node_of xs n).kind ≡ 3) × ((node_of xs n).a ≡ v) × Stands ls xs (node_of xs n).b f
-- 4 has label: variable, place in the file's label list, from 0
Stands ls xs n (has v l) = ((node_of xs n).kind ≡ 4) × ((node_of xs n).a ≡ v) × (capitals (get_or ls (node_of xs n).b []) ≡ l)
-- 5, 6, 7 before, overlaps, includes: variable, variable
Stands ls xs n (pair before v w) = ((node_of xs n).kind ≡ 5) × ((node_of xs n).a ≡ v) × ((node_of xs n).b ≡ w)
Stands ls xs n (pair overlaps v w) = ((node_of xs n).kind ≡ 6) × ((node_of xs n).a ≡ v) × ((node_of xs n).b ≡ w)
Stands ls xs n (pair includes v w) = ((node_of xs n).kind ≡ 7) × ((node_of xs n).a ≡ v) × ((node_of xs n).b ≡ w)
-- 8 same: variable, variable
Stands ls xs n (pair same v w) = ((node_of xs n).kind ≡ 8) × ((node_of xs n).a ≡ v) × ((node_of xs n).b ≡ w)

-- the file is a rule file, and its rule is the formula f
pub record RuleFile (file : List ℕ) (f : Formula) : Type 0 where
  pub labels : List (List ℕ)
  pub nodes : List Node
  -- the file is its front, labels, node count and nodes, all in range; "Nothing follows."
  pub whole : UpToNode file labels (length nodes) nodes []
  -- "every other node is named by exactly one field of one later node"
  pub once : AllNamedOnce nodes
  -- "Every variable used stands inside a "some" that binds it"
  pub bound : AllBound nodes
  -- "At most four "some" nodes lie one inside another."
  pub shallow : FiveNested nodes → ⊥
  -- the nodes are one tree: from the root exactly one path leads down to each other node
  pub tree : (n : ℕ) → suc n < length nodes → OnePath nodes (length nodes - 1) n
  -- "The last node is the root"
  pub root : Stands labels nodes (length nodes - 1) f
