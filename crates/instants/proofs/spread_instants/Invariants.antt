use Rattle.instants.proofs.Column.{Copied}
use Rattle.instants.proofs.spread_instants.Given as goal

abbrev pub invariant-loop-i : goal.invariant-loop-i
invariant-loop-i l = Copied l.x-items l.instants l.i
