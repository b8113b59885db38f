-- Each test's outcome says whether the node is cut short, faulty or read.
use Rattle.rules.proofs.Nodes.{node-cases}
use Rattle.rules.proofs.table.node.Goals as goal

pub returns-then-file-at-lt3 : goal.returns-then-file-at-lt3
returns-then-file-at-lt3 c = search node-cases

pub returns-then-not-fields_ok : goal.returns-then-not-fields_ok
returns-then-not-fields_ok c = search node-cases

pub returns : goal.returns
returns c = search node-cases
