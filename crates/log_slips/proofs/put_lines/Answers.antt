-- The invariant is `Walked`; each line that is read on leaves fewer bytes.
use mathlib.Core.Path.{refl}
use borrow.Author.Rules.{rules}
use Rattle.log_slips.proofs.Whole.{fewer_left, walk_starts, walk_within, walk_shows}
use Rattle.log_slips.proofs.put_lines.Goals as goal

pub loop-w-init : goal.loop-w-init
loop-w-init c = (search (walk_starts, rules), refl)

pub loop-w-smaller : goal.loop-w-smaller
loop-w-smaller c = search (fewer_left, rules)

pub returns : goal.returns
returns c = (search (walk_within, rules), search (walk_shows, rules))
