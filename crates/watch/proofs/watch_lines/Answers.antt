-- What the lines so far leave is an accepted log's; each line that goes on leaves room for one fewer.
use borrow.Author.Rules.{rules}
use Rattle.watch.proofs.Session.{fewer_left}
use Rattle.watch.proofs.watch_lines.Goals as goal

pub loop-streams-smaller : goal.loop-streams-smaller
loop-streams-smaller c = search (fewer_left, rules)
