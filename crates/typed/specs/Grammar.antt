-- How the code works, not what it means.
-- The grammar of `typed_grammar` as functions. A reader takes the unread text and answers what it read and what is left. The first number only
-- bounds how deep the readers call each other: any number above four for each unread byte serves.
use Rattle.std.specs.Prelude.{ℕ, zero, suc, ◌+◌, ◌*◌, List, [], ◌∷◌, cond, ltb, length}
use Rattle.std.proofs.Math.Option.{Option, none, some}
use Rattle.signs.specs.Signs.{Got, read, outside, next, if_sign, skip, sign, name, bar_sign, and_sign, not_sign, open_sign, close_sign, comma_sign, dot_sign, exist_sign}
use Rattle.atoms.specs.Tree.{Tree, neg, exists, either_all, both_all}
use Rattle.atoms.specs.Atoms.{read_atom}

unfoldable mutual
  -- "then `|`": one or more ands; blanks behind the last operand are passed at once, so that no reader above passes them again
  pub read_or : ℕ → List ℕ → Got Tree
  read_or zero s = outside
  read_or (suc f) s = next (read_and f s) λ t s1. next (more_or f s1) λ ts s2. read (either_all t ts) s2

  pub more_or : ℕ → List ℕ → Got (List Tree)
  more_or zero s = outside
  more_or (suc f) s =
      if_sign (sign bar_sign s) (λ s1. next (read_and f s1) λ t s2. next (more_or f s2) λ ts s3. read (t ∷ ts) s3) (read [] (skip s))

  -- "then `&`": one or more nots
  pub read_and : ℕ → List ℕ → Got Tree
  read_and zero s = outside
  read_and (suc f) s = next (read_not f s) λ t s1. next (more_and f s1) λ ts s2. read (both_all t ts) s2

  pub more_and : ℕ → List ℕ → Got (List Tree)
  more_and zero s = outside
  more_and (suc f) s =
      if_sign (sign and_sign s) (λ s1. next (read_not f s1) λ t s2. next (more_and f s2) λ ts s3. read (t ∷ ts) s3) (read [] (skip s))

  -- "`!` binds closest"; "exist" may stand where an operand may
  pub read_not : ℕ → List ℕ → Got Tree
  read_not zero s = outside
  read_not (suc f) s =
      if_sign (sign not_sign s) (λ s1. next (read_not f s1) λ t s2. read (neg t) s2)
      (if_sign (sign exist_sign s) (λ s1. read_some f s1) (read_operand f s))

  -- the names behind "exist"; it "reaches as far right as it can"
  pub read_some : ℕ → List ℕ → Got Tree
  read_some zero s = outside
  read_some (suc f) s = next (name s) λ n s1. next (read_body f s1) λ t s2. read (exists n t) s2

  pub read_body : ℕ → List ℕ → Got Tree
  read_body zero s = outside
  read_body (suc f) s = if_sign (sign comma_sign s) (λ s1. read_some f s1) (if_sign (sign dot_sign s) (λ s1. read_or f s1) outside)

  -- "a whole rule inside brackets is read the way a whole rule is"
  pub read_operand : ℕ → List ℕ → Got Tree
  read_operand zero s = outside
  read_operand (suc f) s =
      if_sign (sign open_sign s) (λ s1. next (read_or f s1) λ t s2. if_sign (sign close_sign s2) (λ s3. read t s3) outside) (read_atom s)

-- a whole text: one rule, and only spaces and LFs behind it
abbrev pub wholly : {A : Type 0} → A → List ℕ → Option A
wholly a [] = some a
wholly a (b ∷ s) = none

abbrev pub whole : Got Tree → Option Tree
whole (read t s) = wholly t (skip s)
whole outside = none

unfoldable pub tree_of : List ℕ → Option Tree
tree_of text = whole (read_or (4 * length text + 4) text)

-- "25 for text outside the grammar or above 4,096 bytes"
unfoldable pub read_text : List ℕ → Option Tree
read_text text = cond (ltb 4096 (length text)) none (tree_of text)
