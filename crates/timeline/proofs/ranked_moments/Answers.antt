-- The table is filled with the rows of the ranks, and the moments are read off these.
use native.Mathlib.Omega.{arith}
use Rattle.rules.specs.Rules.{formula_of}
use Rattle.rows.specs.RankModel.{rank_model}
use Rattle.timeline.proofs.Until.{until_from}
use Rattle.timeline.proofs.ranked_moments.Goals as goal

pub true_until-requires : goal.true_until-requires
true_until-requires c = let f = c.fill_rows.ensures in
    record { taken = c.requires.taken; shaped = c.requires.shaped; table_words_in_bounds = (omega (arith, f.filled.long), c.moment_of-low.ensures.1, c.requires.order_fits.0.ranks) }

pub returns : goal.returns
returns c = let f = c.fill_rows.ensures in
    let m = c.moment_of-low in
    λ log u a e h w.
    until_from c.args.stop (rank_model u) (formula_of c.args.file.now c.args.rule) _ _ _ _ m.ensures.0
    (c.true_until.ensures (rank_model u) (f.meaning log c.args.file.now u a e h c.requires.taken.labels w))
