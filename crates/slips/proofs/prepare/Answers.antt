-- The record of an accepted log meets what each part needs; what they give is of the same log.
use mathlib.Core.Path.{◌≡◌}
use native.Mathlib.Omega.{arith}
use lib.ListN.{length}
use Rattle.trace.proofs.Bounds.{valid_fits}
use Rattle.timeline.proofs.Answer.{ends_fit, ranks_fit, wanted_fit}
use Rattle.slips.proofs.Tables.{prepared_for}
use borrow.Author.Rules.{rules}
use Rattle.slips.proofs.prepare.Goals as goal

pub finish_order-o-requires : goal.finish_order-o-requires
finish_order-o-requires c = ends_fit c.args.r c.requires.1

pub wanted_numbers-wanted-requires : goal.wanted_numbers-wanted-requires
wanted_numbers-wanted-requires c = record { count_bound = (c.requires.0.labels_few, c.requires.0.labels_ok); readable = (valid_fits c.args.r c.requires.1).places }

pub ranks_of-ranks-requires : goal.ranks_of-ranks-requires
ranks_of-ranks-requires c = let fits = ranks_fit c.args.r c.requires.1 _ c.finish_order-o.ensures in
    (fits.ranks, fits.run_low)

pub fill_rows-requires : goal.fill_rows-requires
fill_rows-requires c = let wanted : length c.wanted_numbers-wanted.result ≡ 16 = search rules in (
  ranks_fit c.args.r c.requires.1 _ c.finish_order-o.ensures,
  wanted_fit c.args.r c.requires.1 c.args.file.now c.args.rule _ c.requires.0 wanted c.wanted_numbers-wanted.ensures,
  search rules,
)

pub returns : goal.returns
returns c = let heights : length c.heights-heights.result ≡ 64 = search rules in
    let frees : length c.free_variables-frees.result ≡ 64 = search rules in
    let ranks : length c.ranks_of-ranks.result ≡ 128 = search rules in
    let filled = c.fill_rows.ensures in
    prepared_for c.args.file.now c.args.rule c.args.r _ _ _ _ c.wanted_numbers-wanted.result _ _ c.requires.0 c.finish_order-o.ensures
    (ranks_fit c.args.r c.requires.1 _ c.finish_order-o.ensures).ranks
    (record {
      heights_are = c.heights-heights.ensures;
      frees_are = c.free_variables-frees.ensures;
      heights_long = omega (arith, heights);
      frees_long = omega (arith, frees);
    })
    c.ranks_of-ranks.ensures ranks c.wanted_numbers-wanted.ensures filled (omega (arith, filled.filled.long))
