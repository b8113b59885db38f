use Rattle.whole_log.proofs.WholeLog.{log_valid, log_lines_few, judged_at_once, runs_fit}
use borrow.Author.Rules.{rules}
use Rattle.whole_log.proofs.log.read_lines.Goals as goal

pub judge_all-x-requires : goal.judge_all-x-requires
judge_all-x-requires c = record { taken = search rules; valid = search log_valid }

pub write_verdicts-requires : goal.write_verdicts-requires
write_verdicts-requires c = record { fits_runs = search runs_fit; lines_le_max_lines = (search log_lines_few, search rules) }

pub returns : goal.returns
returns c = search judged_at_once
