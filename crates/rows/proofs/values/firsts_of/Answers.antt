-- Each relation is one case of the test by sets.
use Rattle.rows.proofs.Tests.{firsts_before, firsts_overlaps, firsts_includes}
use borrow.Author.Rules.{rules}
use Rattle.rows.proofs.values.firsts_of.Goals as goal

pub returns-then-k-eq0 : goal.returns-then-k-eq0
returns-then-k-eq0 c = firsts_before _ _ _ _ _ _ _ _ c.minus.ensures (search rules) (search rules) (search rules)

pub returns-then-k-eq1 : goal.returns-then-k-eq1
returns-then-k-eq1 c = firsts_overlaps _ _ _ _ _ _ _ _ c.minus-then-k-eq1.ensures _ _ c.meet-both.ensures (search rules) (search rules) (search rules) (search rules) (search rules)

pub returns-else-k-eq1 : goal.returns-else-k-eq1
returns-else-k-eq1 c = firsts_includes _ _ _ _ _ _ _ _ c.minus-else-k-eq1.ensures (search rules) (search rules) (search rules) (search rules)
