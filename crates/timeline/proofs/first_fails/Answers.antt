-- The lines passed hold. So the first line whose verdict is that it fails is the first that fails.
use Rattle.timeline.proofs.FirstLine.{hold_none, hold_more, first_found, none_found}
use borrow.Author.Rules.{rules}
use Rattle.timeline.proofs.first_fails.Goals as goal

pub loop-line-init : goal.loop-line-init
loop-line-init c = hold_none c.args.x

pub verdict_at-requires : goal.verdict_at-requires
verdict_at-requires c = (search rules, c.requires.fits_runs _)

pub returns-then-fails : goal.returns-then-fails
returns-then-fails c = search (rules, first_found)

pub loop-line-preserved : goal.loop-line-preserved
loop-line-preserved c = search (rules, hold_more)

pub returns : goal.returns
returns c = search (rules, none_found)
