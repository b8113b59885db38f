-- How the code works, not what it means.
-- The shape of a formula: whether a "some" stands in it, which variables stand free in it, and
-- how deep its "some" nest.
-- Nothing here depends on how a rule is stored.
use Rattle.std.specs.Prelude.{ℕ, zero, suc, max, Bool, true, false, not, ◌&&◌, ◌||◌, eqb}
use Rattle.rules.specs.Formula.{Formula, both, neg, exists, has, pair}

-- no "some" stands in the formula
unfoldable pub flat? : Formula → Bool
flat? (both f g) = flat? f && flat? g
flat? (neg f) = flat? f
flat? (exists v f) = false
flat? (has v l) = true
flat? (pair p v w) = true

-- "Every variable used stands inside a "some" that binds it; the innermost binds": variable w is used outside every "some" of the
-- formula that binds it
unfoldable pub free? : Formula → ℕ → Bool
free? (both f g) w = free? f w || free? g w
free? (neg f) w = free? f w
free? (exists v f) w = free? f w && not (eqb v w)
free? (has u l) w = eqb u w
free? (pair p u v) w = eqb u w || eqb v w

-- "At most four "some" nodes lie one inside another": how many do
unfoldable pub height : Formula → ℕ
height (both f g) = max (height f) (height g)
height (neg f) = height f
height (exists v f) = suc (height f)
height (has v l) = zero
height (pair p v w) = zero
