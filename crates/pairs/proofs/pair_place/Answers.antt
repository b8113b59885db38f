-- Each layout's own place, and that it is one of the layout's bytes.
use native.Mathlib.Omega.{arith}
use borrow.Author.Rules.{rules}
use Rattle.pairs.proofs.Places.{half-small, place_square, place_half}
use Rattle.pairs.proofs.pair_place.Goals as goal

pub overflow_mul-result-in-Half : goal.overflow_mul-result-in-Half
overflow_mul-result-in-Half c = let m = half-small c.args.first c.args.second (search rules) (search rules) in omega (arith, m)

pub overflow_add-result-in-Half : goal.overflow_add-result-in-Half
overflow_add-result-in-Half c = let m = half-small c.args.first c.args.second (search rules) (search rules) in omega (arith, m)

pub returns-in-Square : goal.returns-in-Square
returns-in-Square c = place_square c.args.layout c.args.first c.args.second (search rules) (search rules) c.in-Square.is

pub returns-in-Half : goal.returns-in-Half
returns-in-Half c = place_half c.args.layout c.args.first c.args.second (search rules) (search rules) c.in-Half.is
