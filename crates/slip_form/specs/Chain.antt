-- How the code works, not what it means.
-- The form of a rule as a test, and where its chain begins.
use Rattle.std.specs.Prelude.{ℕ, ◌-◌, ◌≡◌, Bool, true, false, ◌&&◌, List, [], ◌∷◌, Option, Some, None}
use Rattle.rules.specs.declared.Rule.{Rule}
use Rattle.rules.specs.Formula.{Formula, both, neg, exists, has, pair}
use Rattle.rules.specs.Table.{node_at}
use Rattle.rules.specs.Rules.{formula_of}
use Rattle.shape.specs.Shape.{flat?}
use Rattle.slip_form.specs.Form.{SlipForm}

abbrev pub some? : Formula → Bool
some? (both f g) = false
some? (neg f) = false
some? (exists v f) = true
some? (has v l) = false
some? (pair p v w) = false

-- the chain of "some" that a formula begins with: its variables, and what stands below it
unfoldable pub chain_of : Formula → List ℕ
chain_of (both f g) = []
chain_of (neg f) = []
chain_of (exists v f) = v ∷ chain_of f
chain_of (has v l) = []
chain_of (pair p v w) = []

unfoldable pub part_of : Formula → Formula
part_of (both f g) = both f g
part_of (neg f) = neg f
part_of (exists v f) = part_of f
part_of (has v l) = has v l
part_of (pair p v w) = pair p v w

unfoldable pub slip_form? : Formula → Bool
slip_form? (both f g) = false
slip_form? (neg f) = some? f && flat? (part_of f)
slip_form? (exists v f) = false
slip_form? (has v l) = false
slip_form? (pair p v w) = false

-- the rule has the form, and its chain begins at node top
pub record ChainAt (file : List ℕ) (x : Rule) (top : ℕ) : Type 0 where
  pub kind : (node_at file x.nodes (x.count - 1)).kind ≡ 2
  pub child : top ≡ (node_at file x.nodes (x.count - 1)).a
  pub form : SlipForm (formula_of file x)

pub record TopOf (file : List ℕ) (x : Rule) (t : Option ℕ) : Type 0 where
  pub at : (n : ℕ) → t ≡ Some n → ChainAt file x n
  pub other : t ≡ None → SlipForm (formula_of file x) → ⊥
