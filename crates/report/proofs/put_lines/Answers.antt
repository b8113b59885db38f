-- The loop's invariant: the lines of the verdict bytes passed are written, each of at most 6 bytes.
use mathlib.Core.Path.{refl}
use borrow.Author.Rules.{rules}
use Rattle.report.proofs.Pieces.{lines_none, lines_next, lines_all}
use Rattle.report.proofs.put_lines.Goals as goal

pub loop-i-init : goal.loop-i-init
loop-i-init c = (search rules, refl, search lines_none)

pub loop-i-preserved : goal.loop-i-preserved
loop-i-preserved c = (search rules, search rules, search lines_next)

pub returns : goal.returns
returns c = (search lines_all, search rules)
