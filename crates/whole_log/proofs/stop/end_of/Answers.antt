-- What is left of the first n lines stands behind the place: those of them that are not passed.
use native.Mathlib.Omega.{arith}
use borrow.Author.Rules.{rules}
use Rattle.whole_log.proofs.EndOf.{reached_none, reached_more, reached_lines, reached_end}
use Rattle.whole_log.proofs.stop.end_of.Goals as goal

pub loop-place-init : goal.loop-place-init
loop-place-init c = (omega arith, search reached_none)

pub returns-then-passed-n : goal.returns-then-passed-n
returns-then-passed-n c = search reached_lines

pub loop-place-preserved : goal.loop-place-preserved
loop-place-preserved c = (search rules, search reached_more)

pub returns : goal.returns
returns c = search reached_end
