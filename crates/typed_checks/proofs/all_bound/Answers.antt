-- The answer so far is that for the nodes passed.
use mathlib.Core.Bool.{true}
use borrow.Author.Rules.{rules}
use Rattle.typed_checks.specs.Tests.{bound_step}
use Rattle.typed_checks.proofs.Folds.{fold_first, bound_next, fold_end}
use Rattle.typed_checks.proofs.all_bound.Goals as goal

pub loop-i-init : goal.loop-i-init
loop-i-init c = fold_first bound_step true _

pub loop-i-preserved : goal.loop-i-preserved
loop-i-preserved c = search bound_next

pub returns : goal.returns
returns c = search (rules, fold_end)
