-- The verdict is that of the truth value once as many runs are finished as by the line.
use Rattle.timeline.proofs.AllLines.{verdict_holds, verdict_fails}
use borrow.Author.Rules.{rules}
use Rattle.timeline.proofs.verdict_at.Goals as goal

pub returns-then-truth_after : goal.returns-then-truth_after
returns-then-truth_after c = search (rules, verdict_holds)

pub returns : goal.returns
returns c = search (rules, verdict_fails)
