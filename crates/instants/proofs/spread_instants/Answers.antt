use Rattle.instants.proofs.Column.{copied_none, copied_out, copied_all}
use borrow.Author.Rules.{rules}
use Rattle.instants.proofs.spread_instants.Goals as goal

pub loop-i-init : goal.loop-i-init
loop-i-init c = search copied_none

pub loop-i-preserved : goal.loop-i-preserved
loop-i-preserved c = search (rules, copied_out)

pub returns : goal.returns
returns c = (search rules, search (rules, copied_all))
