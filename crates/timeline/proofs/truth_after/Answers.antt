-- Moment n - 1 is the one at which n runs are finished.
use Rattle.timeline.proofs.AllLines.{after_none, after_some}
use borrow.Author.Rules.{rules}
use Rattle.timeline.proofs.truth_after.Goals as goal

pub returns-then-n-eq0 : goal.returns-then-n-eq0
returns-then-n-eq0 c = search (rules, after_none)

pub returns : goal.returns
returns c = search (rules, after_some)
