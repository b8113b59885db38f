-- All of the first 128, or nothing.
use mathlib.Core.Path.{sym, ◌∙◌}
use borrow.Author.Tests.{lt-ltb}
use Rattle.row_table.proofs.table.all.Goals as goal

pub returns-then-yes : goal.returns-then-yes
returns-then-yes c j l = c.below.ensures j ∙ (lt-ltb j 128 l ∙ sym c.if-yes.true)

pub returns-else-yes : goal.returns-else-yes
returns-else-yes c j l = c.empty.ensures j ∙ sym c.if-yes.false
