-- The outer loop's invariant: the bytes of the runs from the first to before run z are stored. The inner loop's: so are those of run z
-- with the runs after it that stand before run k. No other byte is changed.
use Rattle.trace.specs.Steps.{held}
use Rattle.pairs.specs.Layout.{place}
use Rattle.pairs.specs.Pairs.{pair_byte}
use Rattle.pairs.specs.Code.{Stored, Rows}
use Rattle.pairs.proofs.Walks.{Row}
use Rattle.pairs.proofs.store_rows.Given as goal

abbrev pub invariant-loop-k : goal.invariant-loop-k
invariant-loop-k l = Stored (place l.layout) (pair_byte (held l.t)) (Row l.z l.k) l.initial.work l.work

abbrev pub invariant-loop-z : goal.invariant-loop-z
invariant-loop-z l = Stored (place l.layout) (pair_byte (held l.t)) (Rows l.from l.z l.n) l.initial.work l.work
