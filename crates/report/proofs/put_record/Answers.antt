use Rattle.report.proofs.Record.{lines_few, told_few, runs_few, tally_low, printed-unread, printed_tally}
use native.Mathlib.Omega.{arith}
use lib.ListN.{length-take}
use borrow.Author.Rules.{rules}
use Rattle.report.proofs.put_record.Goals as goal

pub slice_bounds-told-end : goal.slice_bounds-told-end
slice_bounds-told-end c = omega (arith, lines_few c.args.c c.requires.of_trace, c.requires.max_lines_in_bounds.0, length-take c.args.c.state.lines.0 c.args.verdicts.now)

pub put_lines-taken-requires : goal.put_lines-taken-requires
put_lines-taken-requires c = (search told_few, search rules)

pub returns-then-is_unread : goal.returns-then-is_unread
returns-then-is_unread c = search printed-unread

pub count_failing-failing-requires : goal.count_failing-failing-requires
count_failing-failing-requires c = search told_few

pub tally_of-tally-requires : goal.tally_of-tally-requires
tally_of-tally-requires c = search runs_few

pub put_tally-requires : goal.put_tally-requires
put_tally-requires c = (search rules, search tally_low)

pub returns : goal.returns
returns c = search printed_tally
