-- The grammar of typed rules: which rows of signs are a rule, and what the rule says.
use Rattle.std.specs.Prelude.{ℕ, ◌≤◌, List, [], ◌∷◌, length}
use Rattle.labels.specs.Label.{capitals}
use Rattle.rules.specs.Formula.{Pairing}
use Rattle.typed_grammar.specs.Words.{Mark, bar, and, not, opens, closes, comma, dot, before, overlaps, includes, exist, same, Sign, mark, name, label, Signs}

-- What a text says. Names are their bytes, labels their capitals: "Looking up a label must treat a to z as A to Z, in logs, rule files
-- and typed rules".
pub data Tree : Type 0 where
  either both : Tree → Tree → Tree
  neg : Tree → Tree
  exists : List ℕ → Tree → Tree
  has : List ℕ → List ℕ → Tree
  pair : Pairing → List ℕ → List ℕ → Tree

-- `A < B`, `A o B`, `A i B`
pub data Relation : Mark → Pairing → Type 0 where
  is_before : Relation before Pairing.before
  is_overlaps : Relation overlaps Pairing.overlaps
  is_includes : Relation includes Pairing.includes

-- signs that would go on with the rule before them
pub data GoesOn : List Sign → Type 0 where
  by_and : {gs : List Sign} → GoesOn (mark and ∷ gs)
  by_bar : {gs : List Sign} → GoesOn (mark bar ∷ gs)

-- "`!` binds closest, then `&`, then `|`": a rule is sides with `|` between them, a side is operands with `&` between them;
-- and the names that "exist" binds, with what they are bound in
pub data Part : Type 0 where
  rule side operand names : Part

-- the signs begin with such a part, which says the tree, and the last signs are left
pub data Begins : Part → List Sign → Tree → List Sign → Type 0 where
  -- "each grouping to the left"
  one_side : {gs rest : List Sign} {t : Tree} → Begins side gs t rest → Begins rule gs t rest
  or : {gs hs rest : List Sign} {l r : Tree}
      → Begins rule gs l (mark bar ∷ hs) → Begins side hs r rest → Begins rule gs (either l r) rest
  one_operand : {gs rest : List Sign} {t : Tree} → Begins operand gs t rest → Begins side gs t rest
  conjunction : {gs hs rest : List Sign} {l r : Tree}
      → Begins side gs l (mark and ∷ hs) → Begins operand hs r rest → Begins side gs (both l r) rest
  negation : {gs rest : List Sign} {t : Tree} → Begins operand gs t rest → Begins operand (mark not ∷ gs) (neg t) rest
  -- "a whole rule inside brackets is read the way a whole rule is"
  brackets : {gs rest : List Sign} {t : Tree} → Begins rule gs t (mark closes ∷ rest) → Begins operand (mark opens ∷ gs) t rest
  -- `exist A, B .`; "exist" reaches as far right as it can"
  existence : {gs rest : List Sign} {t : Tree}
      → Begins names gs t rest → (GoesOn rest → ⊥) → Begins operand (mark exist ∷ gs) t rest
  last_name : {n : List ℕ} {gs rest : List Sign} {t : Tree}
      → Begins rule gs t rest → Begins names (name n ∷ mark dot ∷ gs) (exists n t) rest
  next_name : {n : List ℕ} {gs rest : List Sign} {t : Tree}
      → Begins names gs t rest → Begins names (name n ∷ mark comma ∷ gs) (exists n t) rest
  -- `A('TEST')`
  has_label : {n l : List ℕ} {rest : List Sign}
      → Begins operand (name n ∷ mark opens ∷ label l ∷ mark closes ∷ rest) (has n (capitals l)) rest
  -- `A < B`, `A o B`, `A i B`
  relation : {m : Mark} {p : Pairing} {n o : List ℕ} {rest : List Sign}
      → Relation m p → Begins operand (name n ∷ mark m ∷ name o ∷ rest) (pair p n o) rest
  -- `same(A,B)`
  same_label : {n o : List ℕ} {rest : List Sign}
      → Begins operand (mark same ∷ mark opens ∷ name n ∷ mark comma ∷ name o ∷ mark closes ∷ rest) (pair Pairing.same n o) rest

-- "25 for text outside the grammar or above 4,096 bytes"; a text inside it says a tree
pub record Says (text : List ℕ) (t : Tree) : Type 0 where
  pub short : length text ≤ 4096
  pub signs : List Sign
  pub row : Signs text signs
  pub reads : Begins rule signs t []
