-- The measure is the node's number, since children have smaller ones.
use Rattle.rule_file.proofs.checks.+is_scoped.Given as goal

abbrev pub decreases-is_scoped : goal.decreases-is_scoped
decreases-is_scoped l = l.node
