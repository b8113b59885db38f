use Rattle.instants.proofs.Column.{dated_here, dated-past}
use Rattle.instants.proofs.date_line.Goals as goal

pub returns-then-k-lt-MAX_LINES : goal.returns-then-k-lt-MAX_LINES
returns-then-k-lt-MAX_LINES c = search dated_here

pub returns-else-k-lt-MAX_LINES : goal.returns-else-k-lt-MAX_LINES
returns-else-k-lt-MAX_LINES c = search dated-past
