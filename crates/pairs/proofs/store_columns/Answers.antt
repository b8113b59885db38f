-- The outer loop's invariant: the bytes of the runs from the first to before run z are stored. The inner loop's: so are those of run z
-- with the runs before run k. No other byte is changed.
use borrow.Author.Rules.{rules}
use Rattle.lists.proofs.Lists.{unmapped}
use Rattle.pairs.proofs.Walks.{column_none, column_more, column_done, columns_none, columns_all}
use Rattle.pairs.proofs.store_columns.Goals as goal

pub loop-z-init : goal.loop-z-init
loop-z-init c = search columns_none

pub loop-k-init : goal.loop-k-init
loop-k-init c = search column_none

pub loop-k-preserved : goal.loop-k-preserved
loop-k-preserved c = search (rules, column_more, unmapped)

pub loop-z-preserved : goal.loop-z-preserved
loop-z-preserved c = search (rules, column_done)

pub returns : goal.returns
returns c = search (rules, columns_all)
