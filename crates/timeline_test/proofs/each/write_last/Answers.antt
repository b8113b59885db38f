-- The record is one that accepted lines leave.
use borrow.Author.Tests.{not-false}
use borrow.Author.Rules.{rules}
use Rattle.timeline_test.proofs.each.write_last.Goals as goal

pub judge_last-requires : goal.judge_last-requires
judge_last-requires c = record { taken = search rules; valid = c.is_record.ensures.yes (not-false _ c.if-not-is_record.false-raw) }
