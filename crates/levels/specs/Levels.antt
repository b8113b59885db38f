-- Levels of variables: the number of "some" around the one that binds a use, from 0. With a variable renamed to its level, no "some"
-- binds a variable inside its own.
use Rattle.std.specs.Prelude.{ℕ, suc, cond, eqb}
use Rattle.rules.specs.Formula.{Formula, both, neg, exists, has, pair}

-- the level of the "some" that binds each variable; the innermost binds
abbrev pub Levels : Type 0
Levels = ℕ → ℕ

abbrev pub no_levels : Levels
no_levels v = 0

-- inside a "some" at level d that binds v
abbrev pub binds : Levels → ℕ → ℕ → Levels
binds e v d w = cond (eqb v w) d (e w)

-- the formula at level d with each variable the level of its "some"
unfoldable pub renamed : ℕ → Levels → Formula → Formula
renamed d e (both f g) = both (renamed d e f) (renamed d e g)
renamed d e (neg f) = neg (renamed d e f)
renamed d e (exists v f) = exists d (renamed (suc d) (binds e v d) f)
renamed d e (has v l) = has (e v) l
renamed d e (pair p v w) = pair p (e v) (e w)

abbrev pub by_level : Formula → Formula
by_level f = renamed 0 no_levels f
