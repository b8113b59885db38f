-- The byte at the place is tested as in the definition.
use Rattle.rules.proofs.Parts.{Node-Counts}
use Rattle.rules.proofs.table.node_count.Goals as goal

pub returns-then-file-at : goal.returns-then-file-at
returns-then-file-at c = search Node-Counts

pub returns-then-count-lt1 : goal.returns-then-count-lt1
returns-then-count-lt1 c = search Node-Counts

pub returns-then-count-gt-MAX_NODES : goal.returns-then-count-gt-MAX_NODES
returns-then-count-gt-MAX_NODES c = search Node-Counts

pub returns : goal.returns
returns c = search Node-Counts
