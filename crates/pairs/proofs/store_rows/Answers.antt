-- The outer loop's invariant: the bytes of the runs from the first to before run z are stored. The inner loop's: so are those of run z
-- with the runs after it that stand before run k. No other byte is changed.
use native.Mathlib.Omega.{arith}
use borrow.Author.Rules.{rules}
use Rattle.lists.proofs.Lists.{unmapped}
use Rattle.trace.specs.Steps.{held}
use Rattle.pairs.specs.Pairs.{pair_byte}
use Rattle.pairs.proofs.Walks.{row_none, row_more, row_done, rows_none, rows_all}
use Rattle.pairs.proofs.store_rows.Goals as goal

pub loop-z-init : goal.loop-z-init
loop-z-init c = search rows_none

pub loop-k-init : goal.loop-k-init
loop-k-init c = search row_none

pub loop-k-preserved : goal.loop-k-preserved
loop-k-preserved c = search (rules, row_more, unmapped)

pub loop-z-preserved : goal.loop-z-preserved
loop-z-preserved c =
    let a = c.args in
    row_done a.layout (pair_byte (held a.t)) a.from c.loop-z.z c.loop-k.k a.t.count _ _ _ (omega arith) (omega arith) (omega arith) c.loop-z.invariant c.loop-k.invariant

pub returns : goal.returns
returns c = search (rules, rows_all)
