-- A node without "some" is looked up in the masks, and any other is not closed.
use Rattle.lists.proofs.Tells.{tell_no, tell_by}
use Rattle.moments.proofs.search.closed.Goals as goal

pub returns-then-heights-node-eq0 : goal.returns-then-heights-node-eq0
returns-then-heights-node-eq0 c = tell_by (λ h. (c.if-heights-node-eq0.true, h)) (λ h. h.1) c.apart.ensures

pub returns-else-heights-node-eq0 : goal.returns-else-heights-node-eq0
returns-else-heights-node-eq0 c = tell_no (λ h. c.if-heights-node-eq0.false h.0)
