-- Each relation is one case of the test by sets.
use Rattle.rows.proofs.Tests.{seconds_before, seconds_overlaps, seconds_includes}
use borrow.Author.Rules.{rules}
use Rattle.rows.proofs.values.seconds_of.Goals as goal

pub returns-then-k-eq0 : goal.returns-then-k-eq0
returns-then-k-eq0 c = seconds_before _ _ _ _ _ _ _ _ _ c.without.ensures (search rules) (search rules) (search rules) (search rules)

pub returns-then-k-eq1 : goal.returns-then-k-eq1
returns-then-k-eq1 c = seconds_overlaps _ _ _ _ _ _ _ _ _ c.without-then-k-eq1.ensures (search rules) (search rules) (search rules) (search rules) (search rules)

pub returns-else-k-eq1 : goal.returns-else-k-eq1
returns-else-k-eq1 c = seconds_includes _ _ _ _ _ _ _ _ _ c.without-else-k-eq1.ensures (search rules) (search rules) (search rules) (search rules) (search rules)
