-- How the code works, not what it means.
-- The text of a formula with what follows it, and the tree that reading keeps of it.
use Rattle.std.specs.Prelude.{ℕ, zero, suc, ◌+◌, List, [], ◌∷◌, ◌++◌, length}
use Rattle.rules.specs.Formula as Formula
use Rattle.rules.specs.Formula.{Pairing, Formula}
use Rattle.levels.specs.Levels.{Levels, binds}
use Rattle.atoms.specs.Tree.{Tree}
use Rattle.typed_grammar.specs.File.{pair_kind}
use Rattle.typed_grammar.specs.Text.{letter}

abbrev pub write_pair : Pairing → ℕ → ℕ → List ℕ → List ℕ
write_pair Formula.before a b s = a ∷ 32 ∷ 60 ∷ 32 ∷ b ∷ s
write_pair Formula.overlaps a b s = a ∷ 32 ∷ 111 ∷ 32 ∷ b ∷ s
write_pair Formula.includes a b s = a ∷ 32 ∷ 105 ∷ 32 ∷ b ∷ s
write_pair Formula.same a b s = 115 ∷ 97 ∷ 109 ∷ 101 ∷ 40 ∷ a ∷ 44 ∷ b ∷ 41 ∷ s

unfoldable pub write : ℕ → Levels → Formula → List ℕ → List ℕ
write d e (Formula.both f g) s = 40 ∷ write d e f (38 ∷ write d e g (41 ∷ s))
write d e (Formula.neg f) s = 33 ∷ write d e f s
write d e (Formula.exists v f) s = 40 ∷ 101 ∷ 120 ∷ 105 ∷ 115 ∷ 116 ∷ 32 ∷ letter d ∷ 46 ∷ write (suc d) (binds e v d) f (41 ∷ s)
write d e (Formula.has v l) s = letter (e v) ∷ 40 ∷ 39 ∷ (l ++ (39 ∷ 41 ∷ s))
write d e (Formula.pair p v w) s = write_pair p (letter (e v)) (letter (e w)) s

-- the letters of the first d levels
abbrev pub letters : ℕ → List ℕ
letters zero = []
letters (suc d) = letters d ++ (letter d ∷ [])

-- the tree that the text says, where s follows it
unfoldable pub said : ℕ → Levels → Formula → List ℕ → Tree
unfolding write
said d e (Formula.both f g) s = Tree.both (said d e f (38 ∷ write d e g (41 ∷ s))) (said d e g (41 ∷ s))
said d e (Formula.neg f) s = Tree.neg (said d e f s)
said d e (Formula.exists v f) s = Tree.exists (letter d) (said (suc d) (binds e v d) f (41 ∷ s))
said d e (Formula.has v l) s = Tree.has (letter (e v)) (length (l ++ (39 ∷ 41 ∷ s)))
said d e (Formula.pair p v w) s = Tree.pair (pair_kind p) (letter (e v)) (letter (e w))

-- how deep reading the text goes
abbrev pub deep : Formula → ℕ
deep (Formula.both f g) = deep f + deep g + 8
deep (Formula.neg f) = deep f + 1
deep (Formula.exists v f) = deep f + 12
deep (Formula.has v l) = 2
deep (Formula.pair p v w) = 2
