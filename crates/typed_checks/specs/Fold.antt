-- How the code works, not what it means.
-- Going through the nodes of a table, and through the same nodes of a tree.
use Rattle.std.specs.Prelude.{ℕ, zero, suc, ◌+◌, ◌*◌, List, length, get_or}
use Rattle.atoms.specs.Tree.{Tree, either, both, neg, exists, has, pair}
use Rattle.atoms.specs.Emit.{Names, level, inside}

-- what is made of a node: from what was before, by the node's kind and fields
abbrev pub Step : Type 0 → Type 0
Step S = S → ℕ → ℕ → ℕ → S

-- the nodes k to k + n - 1
unfoldable pub fold_nodes : {S : Type 0} → Step S → S → List ℕ → ℕ → ℕ → S
fold_nodes f s tb k zero = s
fold_nodes f s tb k (suc n) = f (fold_nodes f s tb k n) (get_or tb (3 * (k + n)) 0) (get_or tb (3 * (k + n) + 1) 0) (get_or tb (3 * (k + n) + 2) 0)

-- the nodes of a tree that are neither an and nor a not
unfoldable pub fold_tree : {S : Type 0} → Step S → S → Names → Tree → S
fold_tree f s ns (either l r) = fold_tree f (fold_tree f s ns l) ns r
fold_tree f s ns (both l r) = fold_tree f (fold_tree f s ns l) ns r
fold_tree f s ns (neg t) = fold_tree f s ns t
fold_tree f s ns (exists n t) = f (fold_tree f s (inside ns n) t) 3 (length ns) 0
fold_tree f s ns (has n l) = f s 4 (level ns n) l
fold_tree f s ns (pair q n m) = f s q (level ns n) (level ns m)
