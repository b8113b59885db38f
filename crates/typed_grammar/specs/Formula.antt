-- The formula that a typed rule says.
use Rattle.std.specs.Prelude.{ℕ, cond, List, [], ◌∷◌, length}
use Rattle.lists.specs.Lists.{same?}
use Rattle.rules.specs.Formula.{Formula}
use Rattle.typed_grammar.specs.Grammar.{Tree}

-- the names bound around a place, innermost first
abbrev pub Names : Type 0
Names = List (List ℕ)

-- "A name bound at nesting level k (from 0) becomes variable k"; the innermost binds. A name that none binds is refused (9).
abbrev pub level_in : Names → List ℕ → ℕ
level_in [] n = 0
level_in (m ∷ ms) n = cond (same? m n) (length ms) (level_in ms n)

unfoldable pub formula_in : Names → Tree → Formula
-- "An or becomes the not of the and of the nots of its two sides."
formula_in ns (Tree.either l r) = Formula.neg (Formula.both (Formula.neg (formula_in ns l)) (Formula.neg (formula_in ns r)))
formula_in ns (Tree.both l r) = Formula.both (formula_in ns l) (formula_in ns r)
formula_in ns (Tree.neg t) = Formula.neg (formula_in ns t)
formula_in ns (Tree.exists n t) = Formula.exists (length ns) (formula_in (n ∷ ns) t)
formula_in ns (Tree.has n l) = Formula.has (level_in ns n) l
formula_in ns (Tree.pair p n m) = Formula.pair p (level_in ns n) (level_in ns m)

-- the formula of a whole rule
abbrev pub formula_said : Tree → Formula
formula_said t = formula_in [] t
