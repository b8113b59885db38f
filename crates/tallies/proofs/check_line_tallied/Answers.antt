use Rattle.single.proofs.LineCall.{rule_taken, standing_known}
use Rattle.tallies.proofs.TallyCall.{tallied-short, tallied-unruled, tallied-unknown, tallied_known}
use Rattle.tallies.proofs.check_line_tallied.Goals as goal

pub returns-then-work-end : goal.returns-then-work-end
returns-then-work-end c = search tallied-short

pub returns-in-Err : goal.returns-in-Err
returns-in-Err c = search tallied-unruled

pub returns-then-not-known : goal.returns-then-not-known
returns-then-not-known c = search tallied-unknown

pub advance_tallied-requires : goal.advance_tallied-requires
advance_tallied-requires c = record { taken = search rule_taken; standing = standing_known _ _ _ _ c.known.ensures c.if-not-known.false-raw }

pub returns-in-Ok : goal.returns-in-Ok
returns-in-Ok c = search tallied_known
