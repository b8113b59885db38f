use Rattle.slip_search.proofs.Asked.{asked_at}
use Rattle.slip_search.proofs.holds_at.Goals as goal

pub returns : goal.returns
returns c = λ M rows.
    asked_at M _ _ _ _ _ c.args.moment _ c.requires.1 c.requires.2 c.below.ensures c.from-dom.ensures
    (c.times-s.ensures M rows) c.has.ensures
