-- The rules that have slips: "a rule that is "not" over a chain of one to four "some" over a part without "some"".
-- It is said of the formula; nothing here depends on how a rule is stored.
use Rattle.std.specs.Prelude.{ℕ, ◌≤◌, ◌≡◌, List, [], ◌∷◌, length}
use Rattle.rules.specs.Formula.{Formula, both, neg, exists, has, pair}

-- "a part without "some""
unfoldable pub WithoutSome : Formula → Type 0
WithoutSome (both f g) = WithoutSome f × WithoutSome g
WithoutSome (neg f) = WithoutSome f
WithoutSome (exists v f) = ⊥
WithoutSome (has v l) = Unit {0}
WithoutSome (pair p v w) = Unit {0}

-- "a chain of .. "some" over a part", by the variables that they bind, outermost first
abbrev pub some_of : List ℕ → Formula → Formula
some_of [] g = g
some_of (v ∷ vs) g = exists v (some_of vs g)

pub record SlipForm (f : Formula) : Type 0 where
  pub variables : List ℕ
  pub part : Formula
  pub not_over : f ≡ neg (some_of variables part)
  pub one : 1 ≤ length variables
  pub four : length variables ≤ 4
  pub without : WithoutSome part
