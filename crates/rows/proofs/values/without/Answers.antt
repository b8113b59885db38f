-- What is left after one set and then the other is taken away.
use mathlib.Core.Path.{ap, ◌∙◌}
use mathlib.Core.Bool.{Bool, not, ◌&&◌}
use Rattle.sets.specs.Sets.{mem}
use Rattle.rows.proofs.values.without.Goals as goal

pub returns : goal.returns
returns c j = c.minus-2.ensures j ∙ ap (λ (x : Bool). x && not (mem c.args.c j)) (c.minus.ensures j)
