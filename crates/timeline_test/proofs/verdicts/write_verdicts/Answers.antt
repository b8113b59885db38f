-- The loop goes over the lines, of which there are at most 256.
use borrow.Author.Rules.{rules}
use Rattle.timeline_test.proofs.verdicts.write_verdicts.Goals as goal

pub verdict_at-requires : goal.verdict_at-requires
verdict_at-requires c = (search rules, c.requires.0 _)
