-- The nodes passed are read, and the next one is at the place after them.
use Prim.Native.Nat.{◌+◌, ◌*◌, ◌≤◌}
use mathlib.Core.Path.{◌≡◌}
use lib.ListN.{length}
use Rattle.rules.specs.Table.{read_nodes}
use Rattle.std.specs.Prelude.{Ok}
use Rattle.rules.proofs.table.nodes.Given as goal

abbrev pub invariant-loop-i : goal.invariant-loop-i
invariant-loop-i l = (l.first + 3 * l.i ≤ length l.file) × (read_nodes l.file l.first l.i ≡ Ok (l.first + 3 * l.i))
