-- The record is one that accepted lines leave.
use borrow.Author.Tests.{not-false}
use Rattle.timeline_test.proofs.verdicts.write_record.Goals as goal

pub judge_all-requires : goal.judge_all-requires
judge_all-requires c = record { taken = c.requires; valid = c.is_record.ensures.yes (not-false _ c.if-not-is_record.false-raw) }
