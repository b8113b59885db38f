-- A run that is kept leaves the moments from its own on, and any other none.
use Rattle.set_table.proofs.Turns.{left_kept, left_dropped}
use Rattle.set_table.proofs.left_of.Goals as goal

pub returns-then-has : goal.returns-then-has
returns-then-has c = left_kept _ _ _ _ _ _ _ c.has.ensures c.if-has.true c.from.ensures c.minus.ensures

pub returns-else-has : goal.returns-else-has
returns-else-has c = left_dropped _ _ _ _ _ _ c.has.ensures c.if-has.false c.empty.ensures
