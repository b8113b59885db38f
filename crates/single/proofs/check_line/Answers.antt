use Rattle.single.proofs.LineCall.{rule_taken, standing_known, line_short, line_unruled, line_unknown, line_known}
use Rattle.single.proofs.check_line.Goals as goal

pub returns-then-work-end : goal.returns-then-work-end
returns-then-work-end c = search line_short

pub returns-in-Err : goal.returns-in-Err
returns-in-Err c = rw c.from.ensures (search line_unruled)

pub returns-then-not-known : goal.returns-then-not-known
returns-then-not-known c = search line_unknown

pub advance-requires : goal.advance-requires
advance-requires c = record { taken = search rule_taken; standing = search (standing_known, c.known.ensures) }

pub returns-in-Ok : goal.returns-in-Ok
returns-in-Ok c = search line_known
