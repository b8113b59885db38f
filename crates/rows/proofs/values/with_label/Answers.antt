-- No rank has the label of number 0.
use Rattle.rows.proofs.Tests.{no_label, some_label}
use borrow.Author.Rules.{rules}
use Rattle.rows.proofs.values.with_label.Goals as goal

pub returns-then-n-eq0 : goal.returns-then-n-eq0
returns-then-n-eq0 c = no_label c.args.n c.args.labelled.now _ (search rules) (search rules)

pub returns-else-n-eq0 : goal.returns-else-n-eq0
returns-else-n-eq0 c = some_label c.args.n c.args.labelled.now _ (search rules) (search rules)
