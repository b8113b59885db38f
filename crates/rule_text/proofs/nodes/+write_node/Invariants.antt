-- The measure is the node's number, since children have smaller ones. The text of a node is put together from those of its children.
use Rattle.rule_text.proofs.nodes.+write_node.Given as goal

abbrev pub decreases-write_node : goal.decreases-write_node
decreases-write_node l = l.node
