-- The record of an accepted log meets what each part needs, and their promises together are the verdict of each line.
use mathlib.Core.Path.{◌≡◌}
use native.Mathlib.Omega.{arith}
use lib.ListN.{length}
use Rattle.trace.proofs.Bounds.{valid_fits}
use Rattle.timeline.proofs.Answer.{ends_fit, ranks_fit, wanted_fit, done_low, judges_from}
use borrow.Author.Rules.{rules}
use Rattle.timeline.proofs.judge_from.Goals as goal

pub finish_order-o-requires : goal.finish_order-o-requires
finish_order-o-requires c = ends_fit c.args.r c.requires.valid.0

pub wanted_numbers-wanted-requires : goal.wanted_numbers-wanted-requires
wanted_numbers-wanted-requires c = record { count_bound = (c.requires.taken.labels_few, c.requires.taken.labels_ok); readable = (valid_fits c.args.r c.requires.valid.0).places }

pub before_first-first-requires : goal.before_first-first-requires
before_first-first-requires c = let heights : length c.heights-heights.result ≡ 64 = search rules in
    let frees : length c.free_variables-frees.result ≡ 64 = search rules in record {
      taken = c.requires.taken;
      shaped = record {
        heights_are = c.heights-heights.ensures;
        frees_are = c.free_variables-frees.ensures;
        heights_long = omega arith;
        frees_long = omega arith;
      };
    }

pub ranked_moments-moments-requires : goal.ranked_moments-moments-requires
ranked_moments-moments-requires c = let wanted : length c.wanted_numbers-wanted.result ≡ 16 = search rules in record {
  taken = c.requires.taken;
  shaped = (
      let heights : length c.heights-heights.result ≡ 64 = search rules in
      let frees : length c.free_variables-frees.result ≡ 64 = search rules in
      record { heights_are = c.heights-heights.ensures; frees_are = c.free_variables-frees.ensures; heights_long = omega arith; frees_long = omega arith }
      );
  order_fits = (
    ranks_fit c.args.r c.requires.valid.0 _ c.finish_order-o.ensures,
    wanted_fit c.args.r c.requires.valid.0 c.args.file.now c.args.rule _ c.requires.taken wanted c.wanted_numbers-wanted.ensures,
  );
  line_le_max_lines = (c.requires.valid.1, done_low c.args.r c.requires.valid.0 _ c.finish_order-o.ensures c.args.line);
}

pub returns : goal.returns
returns c = judges_from c.args.r c.requires.valid.0 c.args.file.now c.args.rule c.args.line c.args.stop c.wanted_numbers-wanted.result _ _ _ c.requires.taken c.finish_order-o.ensures
    c.wanted_numbers-wanted.ensures c.before_first-first.ensures c.ranked_moments-moments.ensures
