-- What the lines so far leave is an accepted log's; each line that goes on leaves room for one fewer.
use mathlib.Core.Path.{◌≡◌}
use lib.ListN.{length}
use Rattle.watch.specs.Watch.{Watching}
use Rattle.watch.proofs.Session.{lines_left}
use Rattle.watch.proofs.watch_lines.Given as goal

abbrev pub invariant-loop-streams : goal.invariant-loop-streams
invariant-loop-streams l = Watching l.file l.last.state l.last.tally l.work × (length l.work ≡ length l.initial.work)

abbrev pub decreases-loop-streams : goal.decreases-loop-streams
decreases-loop-streams l = lines_left l.last.way l.last.tally.lines
