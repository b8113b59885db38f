-- The sign is found one time more, or not.
use borrow.Author.Rules.{rules}
use Rattle.signs.proofs.Told.{found_sign}
use Rattle.signs.proofs.Repeats.{marked_none, marked_more, run_ended, run_full}
use Rattle.signs.proofs.repeated.Goals as goal

pub loop-n-init : goal.loop-n-init
loop-n-init c = (marked_none _ _ _, search rules)

pub returns-in_default : goal.returns-in_default
returns-in_default c = search (rules, run_ended)

pub loop-n-preserved : goal.loop-n-preserved
loop-n-preserved c = (marked_more _ _ _ _ _ c.loop-n.invariant.0 _ c.in-Some.ensures, (found_sign _ _ _ _ c.in-Some.ensures).2)

pub returns : goal.returns
returns c = search (rules, run_full)
