-- Three stores, or none.
use native.Mathlib.Omega.{arith}
use Rattle.atoms.proofs.Tables.{puts}
use lib.ListN.{length-set}
use Rattle.atoms.proofs.nodes.put.Goals as goal

pub bounds-table-k-then-k-lt64 : goal.bounds-table-k-then-k-lt64
bounds-table-k-then-k-lt64 c = simp length-set (omega arith)

pub bounds-table-k-then-k-lt64-2 : goal.bounds-table-k-then-k-lt64-2
bounds-table-k-then-k-lt64-2 c = simp length-set (omega arith)

pub returns-then-k-lt64 : goal.returns-then-k-lt64
returns-then-k-lt64 c = search puts

pub returns-else-k-lt64 : goal.returns-else-k-lt64
returns-else-k-lt64 c = search puts
