-- The record is one, and so fits the step; what is taken is what the line says.
use borrow.Author.Tests.{not-false}
use Rattle.trace.proofs.Bounds.{valid_fits}
use Rattle.reading.proofs.Hearing.{line_short}
use Rattle.test_steps.proofs.take_line.Goals as goal

pub take_event-requires : goal.take_event-requires
take_event-requires c = (valid_fits _ (c.is_record.ensures.yes (not-false _ c.if-not-is_record.false-raw)), search line_short)
