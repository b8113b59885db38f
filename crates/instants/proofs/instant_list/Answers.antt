use mathlib.Core.Path.{refl}
use lib.ListN.{length-set}
use Rattle.instants.proofs.Column.{copied_none, copied_back, copied_all}
use borrow.Author.Rules.{rules}
use Rattle.instants.proofs.instant_list.Goals as goal

pub loop-i-init : goal.loop-i-init
loop-i-init c = (refl, search copied_none)

pub loop-i-preserved : goal.loop-i-preserved
loop-i-preserved c = (simp length-set (search rules), search (rules, copied_back))

pub returns : goal.returns
returns c = search (rules, copied_all)
