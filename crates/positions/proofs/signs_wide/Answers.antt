-- The ranks stand to each other as the positions do.
use Rattle.positions.proofs.Ranks.{signs_rank}
use mathlib.Core.Path.{◌∙◌}
use Rattle.positions.proofs.signs_wide.Goals as goal

pub returns : goal.returns
returns c = c.signs_narrow.ensures
    ∙ signs_rank _ _ _ _ _ _ _ _ c.rank.ensures c.rank-2.ensures c.rank-3.ensures c.rank-4.ensures
