-- The one store puts rank j at variable v and leaves the others.
use mathlib.Core.Path.{◌≡◌}
use native.Mathlib.Omega.{arith}
use lib.ListN.{length}
use Rattle.lists.proofs.Lists.{unmapped}
use Rattle.row_table.proofs.Marks.{rebind}
use Rattle.row_table.proofs.ranks.rebound.Goals as goal

pub returns : goal.returns
returns c = let e : length c.args.b.run ≡ 4 = search unmapped in
    rebind c.args.b.run c.args.v c.args.j (omega (arith, c.requires))
