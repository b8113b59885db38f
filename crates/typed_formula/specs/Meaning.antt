-- How the code works, not what it means.
-- The formula that a read tree says, in a text where labels have their places.
use Rattle.std.specs.Prelude.{ℕ, ◌-◌, List, length, drop}
use Rattle.lists.specs.Lists.{up_to}
use Rattle.labels.specs.Label.{capitals}
use Rattle.rules.specs.Formula.{Formula}
use Rattle.rules.specs.Table.{pairing_of}
use Rattle.atoms.specs.Tree.{Tree}
use Rattle.atoms.specs.Emit.{Names, level, inside}

-- the capitals of the label behind whose opening quote n bytes stand
unfoldable pub label_text : List ℕ → ℕ → List ℕ
label_text text n = capitals (up_to 39 (drop (length text - n) text))

-- "An or becomes the not of the and of the nots of its two sides."
-- "A name bound at nesting level k (from 0) becomes variable k"
unfoldable pub formula_for : List ℕ → Names → Tree → Formula
formula_for text ns (Tree.either l r) = Formula.neg (Formula.both (Formula.neg (formula_for text ns l)) (Formula.neg (formula_for text ns r)))
formula_for text ns (Tree.both l r) = Formula.both (formula_for text ns l) (formula_for text ns r)
formula_for text ns (Tree.neg t) = Formula.neg (formula_for text ns t)
formula_for text ns (Tree.exists n t) = Formula.exists (length ns) (formula_for text (inside ns n) t)
formula_for text ns (Tree.has n l) = Formula.has (level ns n) (label_text text l)
formula_for text ns (Tree.pair q n m) = Formula.pair (pairing_of q) (level ns n) (level ns m)
