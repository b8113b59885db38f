-- The step says what the line leaves, and the finder what breaks the rule then.
use Rattle.trace.proofs.Bounds.{valid_fits}
use Rattle.reading.proofs.Hearing.{line_short}
use Rattle.steps.proofs.Stepping.{takes_same}
use Rattle.log_slips.proofs.Found.{valid_lines}
use Rattle.log_slips.proofs.Line.{lines_then, few-then, takes-taken, takes_refused}
use borrow.Author.Rules.{rules}
use Rattle.log_slips.proofs.take_line.Goals as goal

pub take_event-a-requires : goal.take_event-a-requires
take_event-a-requires c = (search (valid_fits, rules), search line_short)

pub refuse-requires : goal.refuse-requires
refuse-requires c = let step = takes_same _ _ _ c.take_event-a.ensures in
    (search rules, search (valid_lines, rules))

pub returns-in-Err : goal.returns-in-Err
returns-in-Err c = let step = takes_same _ _ _ c.take_event-a.ensures in
    search (takes_refused, rules)

pub put_found-size-requires : goal.put_found-size-requires
put_found-size-requires c = let step = takes_same _ _ _ c.take_event-a.ensures in
    (search rules, search (lines_then, rules), search (few-then, rules))

pub returns-in-Ok : goal.returns-in-Ok
returns-in-Ok c = let step = takes_same _ _ _ c.take_event-a.ensures in
    search (takes-taken, rules)
