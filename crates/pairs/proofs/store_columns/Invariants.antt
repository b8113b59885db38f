-- The outer loop's invariant: the bytes of the runs from the first to before run z are stored. The inner loop's: so are those of run z
-- with the runs before run k. No other byte is changed.
use Rattle.trace.specs.Steps.{held}
use Rattle.pairs.specs.Layout.{place}
use Rattle.pairs.specs.Pairs.{pair_byte}
use Rattle.pairs.specs.Code.{Stored, Columns}
use Rattle.pairs.proofs.Walks.{Column}
use Rattle.pairs.proofs.store_columns.Given as goal

abbrev pub invariant-loop-k : goal.invariant-loop-k
invariant-loop-k l = Stored (place l.layout) (pair_byte (held l.t)) (Column l.z l.k) l.initial.work l.work

abbrev pub invariant-loop-z : goal.invariant-loop-z
invariant-loop-z l = Stored (place l.layout) (pair_byte (held l.t)) (Columns l.from l.z) l.initial.work l.work
