-- The first line that fails is found in the record of all lines; the lines through it are an accepted log of their own.
use Rattle.whole_log.proofs.WholeLog.{read_valid, read_lines_few}
use Rattle.whole_log.proofs.Failing.{part_few, part_lines_few, read_to_failing}
use borrow.Author.Rules.{rules}
use Rattle.whole_log.proofs.stop.read_to_failure.Goals as goal

pub first_failing-n-requires : goal.first_failing-n-requires
first_failing-n-requires c = record { taken = search rules; valid = search read_valid }

pub fill_pairs-requires : goal.fill_pairs-requires
fill_pairs-requires c = (search rules, search part_few)

pub write_up_to-requires : goal.write_up_to-requires
write_up_to-requires c = (search (part_lines_few, read_lines_few), search rules)

pub returns : goal.returns
returns c = read_to_failing c.args.log.now _ c.read_runs-a.ensures c.args.file.now c.args.rule _ c.first_failing-n.ensures c.args.layout _ _ (search rules) _ c.first_read-b.ensures _ c.fill_pairs.ensures _ c.write_up_to.ensures
