-- What the moments of a part have and the set has not is nothing exactly if the set has them all.
use Rattle.timeline.proofs.Until.{tells_all}
use Rattle.timeline.proofs.search.has_all.Goals as goal

pub returns : goal.returns
returns c = tells_all c.args.s _ _ _ c.args.low c.args.end c.below.ensures c.from-dom.ensures c.minus.ensures _ c.none.ensures
