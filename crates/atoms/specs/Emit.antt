-- How the code works, not what it means.
-- The table of nodes that a tree takes: three numbers a node, "numbered as first completed, left before right". The table has 64
-- nodes; a node past those is counted and not kept. "has label" keeps the label's place.
use Rattle.std.specs.Prelude.{ℕ, suc, ◌+◌, ◌-◌, ◌*◌, cond, List, [], ◌∷◌, ◌++◌, eqb, ltb, length, take, set}
use Rattle.atoms.specs.Tree.{Tree, either, both, neg, exists, has, pair, size}

-- the names bound around a place, outermost first
abbrev pub Names : Type 0
Names = List ℕ

-- "A name bound at nesting level k (from 0) becomes variable k"; the innermost binds. A name that nothing binds becomes 255.
unfoldable pub level_from : ℕ → ℕ → Names → ℕ → ℕ
level_from i found [] n = found
level_from i found (x ∷ xs) n = level_from (suc i) (cond (eqb x n) i found) xs n

abbrev pub level : Names → ℕ → ℕ
level ns n = level_from 0 255 ns n

-- inside an "exist" of n; more than 64 names are never asked for
unfoldable pub inside : Names → ℕ → Names
inside ns n = take 64 (ns ++ (n ∷ []))

unfoldable pub put : List ℕ → ℕ → ℕ → ℕ → ℕ → List ℕ
put tb k kind a b = cond (ltb k 64) (set (set (set tb (3 * k) kind) (3 * k + 1) a) (3 * k + 2) b) tb

-- behind the two sides of an or, whose first not is node k and whose second side ends before node n
unfoldable pub close_or : List ℕ → ℕ → ℕ → List ℕ
close_or tb k n = put (put (put tb n 2 (n - 1) 0) (n + 1) 1 k n) (n + 2) 2 (n + 1) 0

-- the table with the nodes of a tree from node k on
unfoldable pub emit : List ℕ → ℕ → Names → Tree → List ℕ
emit tb k ns (either l r) =
    let m = k + size l in
    close_or (emit (put (emit tb k ns l) m 2 (m - 1) 0) (m + 1) ns r) m (m + 1 + size r)
emit tb k ns (both l r) =
    let m = k + size l in
    put (emit (emit tb k ns l) m ns r) (m + size r) 1 (m - 1) (m + size r - 1)
emit tb k ns (neg t) = put (emit tb k ns t) (k + size t) 2 (k + size t - 1) 0
emit tb k ns (exists n t) = put (emit tb k (inside ns n) t) (k + size t) 3 (length ns) (k + size t - 1)
emit tb k ns (has n l) = put tb k 4 (level ns n) l
emit tb k ns (pair q n m) = put tb k q (level ns n) (level ns m)

-- behind a first operand that ends before node k: the further operands of an or, and of an and
abbrev pub or_size : List Tree → ℕ
or_size [] = 0
or_size (t ∷ ts) = size t + 4 + or_size ts

abbrev pub and_size : List Tree → ℕ
and_size [] = 0
and_size (t ∷ ts) = size t + 1 + and_size ts

unfoldable pub emit_ors : List ℕ → ℕ → Names → List Tree → List ℕ
emit_ors tb k ns [] = tb
emit_ors tb k ns (t ∷ ts) =
    emit_ors (close_or (emit (put tb k 2 (k - 1) 0) (k + 1) ns t) k (k + 1 + size t)) (k + 4 + size t) ns ts

unfoldable pub emit_ands : List ℕ → ℕ → Names → List Tree → List ℕ
emit_ands tb k ns [] = tb
emit_ands tb k ns (t ∷ ts) = emit_ands (put (emit tb k ns t) (k + size t) 1 (k - 1) (k + size t - 1)) (k + 1 + size t) ns ts
