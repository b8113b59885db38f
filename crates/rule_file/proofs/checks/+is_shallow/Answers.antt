-- By the kind, the answer is that for the formula of the node.
use Rattle.rule_file.proofs.WholeTable.{depths}
use Rattle.rule_file.proofs.checks.+is_shallow.Goals as goal

pub returns-then-is_shallow : goal.returns-then-is_shallow
returns-then-is_shallow t c = search depths

pub returns-else-is_shallow : goal.returns-else-is_shallow
returns-else-is_shallow t c = search depths

pub returns-in-2 : goal.returns-in-2
returns-in-2 t c = search depths

pub returns-then-left-gt0 : goal.returns-then-left-gt0
returns-then-left-gt0 t c = search depths

pub returns-else-left-gt0 : goal.returns-else-left-gt0
returns-else-left-gt0 t c = search depths

pub returns-in_default : goal.returns-in_default
returns-in_default t c = search depths
