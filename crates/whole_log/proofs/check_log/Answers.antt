use Rattle.single.proofs.LineCall.{rule_taken}
use Rattle.whole_log.proofs.LogCall.{log_short, log_small, log_unruled, log_read}
use borrow.Author.Rules.{rules}
use Rattle.whole_log.proofs.check_log.Goals as goal

pub returns-then-work-end : goal.returns-then-work-end
returns-then-work-end c = search log_short

pub returns-then-verdicts-lt-MAX_LINES : goal.returns-then-verdicts-lt-MAX_LINES
returns-then-verdicts-lt-MAX_LINES c = search log_small

pub returns-in-Err : goal.returns-in-Err
returns-in-Err c = search log_unruled

pub read_part-requires : goal.read_part-requires
read_part-requires c = record { taken = search rule_taken; layout_in_bounds = (search rules, search rules) }

pub returns-in-Ok : goal.returns-in-Ok
returns-in-Ok c = search log_read
