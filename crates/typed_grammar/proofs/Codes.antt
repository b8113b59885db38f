-- The tree that reading keeps, in numbers, and the tree that the text says, in bytes: a name is kept as one number, a label as its place
-- in the text, counted from the text's end, and a relation as the kind of its node.
use Prim.Native.Nat.{ℕ, ◌+◌, ◌*◌, ◌≤◌}
use mathlib.Core.Path.{◌≡◌}
use mathlib.Core.List.{List, [], ◌∷◌}
use Rattle.rules.specs.Formula.{Pairing}
use Rattle.rules.specs.Table.{pairing_of}
use Rattle.atoms.specs.Tree as Kept
use Rattle.typed_formula.specs.Meaning.{label_text}
use Rattle.typed_grammar.specs.Words.{IsName}
use Rattle.typed_grammar.specs.Grammar.{Tree, either, both, neg, exists, has, pair}

-- the bytes of a name as one number, the first the highest
abbrev pub number_from : ℕ → List ℕ → ℕ
number_from n [] = n
number_from n (b ∷ s) = number_from (256 * n + b) s

abbrev pub name_number : List ℕ → ℕ
name_number n = number_from 0 n

pub data Codes (text : List ℕ) : Tree → Kept.Tree → Type 0 where
  of_or : {l r : Tree} {a b : Kept.Tree} → Codes text l a → Codes text r b → Codes text (either l r) (Kept.either a b)
  of_and : {l r : Tree} {a b : Kept.Tree} → Codes text l a → Codes text r b → Codes text (both l r) (Kept.both a b)
  of_not : {t : Tree} {a : Kept.Tree} → Codes text t a → Codes text (neg t) (Kept.neg a)
  of_some : {n : List ℕ} {t : Tree} {a : Kept.Tree} → IsName n → Codes text t a → Codes text (exists n t) (Kept.exists (name_number n) a)
  of_label : {n l : List ℕ} {q : ℕ} → IsName n → label_text text q ≡ l → Codes text (has n l) (Kept.has (name_number n) q)
  of_pair : {p : Pairing} {k : ℕ} {n m : List ℕ} → pairing_of k ≡ p → 5 ≤ k → k ≤ 8 → IsName n → IsName m
      → Codes text (pair p n m) (Kept.pair k (name_number n) (name_number m))
