-- How the code works, not what it means.
-- What a typed rule says, before names have numbers and labels have bytes.
use Rattle.std.specs.Prelude.{ℕ, ◌+◌, List, [], ◌∷◌}

-- l | r; l & r; !t; exist n . t; n('..'), the label by its place; n < m, n o m, n i m and same(n,m) by the kind of their node
pub data Tree : Type 0 where
  either : Tree → Tree → Tree
  both : Tree → Tree → Tree
  neg : Tree → Tree
  exists : ℕ → Tree → Tree
  has : ℕ → ℕ → Tree
  pair : ℕ → ℕ → ℕ → Tree

-- "each grouping to the left"
abbrev pub either_all : Tree → List Tree → Tree
either_all l [] = l
either_all l (t ∷ ts) = either_all (either l t) ts

abbrev pub both_all : Tree → List Tree → Tree
both_all l [] = l
both_all l (t ∷ ts) = both_all (both l t) ts

-- how many nodes a tree takes; "An or becomes the not of the and of the nots of its two sides."
abbrev pub size : Tree → ℕ
size (either l r) = size l + size r + 4
size (both l r) = size l + size r + 1
size (neg t) = size t + 1
size (exists n t) = size t + 1
size (has n l) = 1
size (pair k n m) = 1
