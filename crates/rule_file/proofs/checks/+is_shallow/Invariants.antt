-- The measure is the node's number, since children have smaller ones.
use Rattle.rule_file.proofs.checks.+is_shallow.Given as goal

abbrev pub decreases-is_shallow : goal.decreases-is_shallow
decreases-is_shallow l = l.node
