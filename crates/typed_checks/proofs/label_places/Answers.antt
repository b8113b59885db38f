-- The places so far are those of the nodes passed.
use borrow.Author.Rules.{rules}
use Rattle.typed_checks.proofs.Folds.{listed_first, listed_next, listed_end}
use Rattle.typed_checks.proofs.label_places.Goals as goal

pub loop-i-init : goal.loop-i-init
loop-i-init c = search listed_first

pub loop-i-preserved : goal.loop-i-preserved
loop-i-preserved c = search listed_next

pub returns : goal.returns
returns c = search (rules, listed_end)
