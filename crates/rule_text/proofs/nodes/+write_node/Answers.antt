-- The measure is the node's number, since children have smaller ones. The text of a node is put together from those of its children.
use mathlib.Core.Path.{refl}
use native.Mathlib.Omega.{arith}
use Rattle.rule_text.proofs.Descent.{node_inside, and_open, and_left, and_sign_lem, and_right, and_close, and_written, not_open, not_inner, not_written, some_open, some_bound, some_inner, some_close, some_written, atom_ready, atom_written}
use Rattle.rule_text.proofs.nodes.+write_node.Goals as goal

pub node_at-x-requires : goal.node_at-x-requires
node_at-x-requires t c = node_inside _ _ _ _ _ _ _ c.requires _ refl

pub write_byte-p-requires : goal.write_byte-p-requires
write_byte-p-requires t c = and_open _ _ _ _ _ _ _ c.requires _ c.node_at-x.ensures c.if-x-eq1.true

pub write_node-q-requires : goal.write_node-q-requires
write_node-q-requires t c = and_left _ _ _ _ _ _ _ c.requires _ c.node_at-x.ensures c.if-x-eq1.true _ _ c.write_byte-p.ensures t c.decreases

pub write_byte-s-requires : goal.write_byte-s-requires
write_byte-s-requires t c = and_sign_lem _ _ _ _ _ _ _ c.requires _ c.node_at-x.ensures c.if-x-eq1.true _ _ c.write_byte-p.ensures _ _ c.write_node-q.ensures

pub write_node-t-requires : goal.write_node-t-requires
write_node-t-requires t c = and_right _ _ _ _ _ _ _ c.requires _ c.node_at-x.ensures c.if-x-eq1.true _ _ c.write_byte-p.ensures _ _ c.write_node-q.ensures _ _ c.write_byte-s.ensures t c.decreases

pub write_byte-requires : goal.write_byte-requires
write_byte-requires t c = and_close _ _ _ _ _ _ _ c.requires _ c.node_at-x.ensures c.if-x-eq1.true _ _ c.write_byte-p.ensures _ _ c.write_node-q.ensures _ _ c.write_byte-s.ensures _ _ c.write_node-t.ensures

pub returns-then-x-eq1 : goal.returns-then-x-eq1
returns-then-x-eq1 t c = and_written _ _ _ _ _ _ _ c.requires _ c.node_at-x.ensures c.if-x-eq1.true _ _ c.write_byte-p.ensures _ _ c.write_node-q.ensures _ _ c.write_byte-s.ensures _ _ c.write_node-t.ensures _ _ c.write_byte.ensures

pub write_byte-p-requires-then-x-eq2 : goal.write_byte-p-requires-then-x-eq2
write_byte-p-requires-then-x-eq2 t c = not_open _ _ _ _ _ _ _ c.requires _ c.node_at-x.ensures c.if-x-eq2.true

pub write_node-requires : goal.write_node-requires
write_node-requires t c = not_inner _ _ _ _ _ _ _ c.requires _ c.node_at-x.ensures c.if-x-eq2.true _ _ c.write_byte-p-then-x-eq2.ensures t c.decreases

pub returns-then-x-eq2 : goal.returns-then-x-eq2
returns-then-x-eq2 t c = not_written _ _ _ _ _ _ _ c.requires _ c.node_at-x.ensures c.if-x-eq2.true _ _ c.write_byte-p-then-x-eq2.ensures _ _ c.write_node.ensures

pub write_some-p-requires : goal.write_some-p-requires
write_some-p-requires t c = some_open _ _ _ _ _ _ _ c.requires _ c.node_at-x.ensures c.if-x-eq3.true

pub overflow_add-d : goal.overflow_add-d
overflow_add-d t c = let r = c.requires in omega (arith, r.deep)

pub entered-requires : goal.entered-requires
entered-requires t c = some_bound _ _ _ _ _ _ _ c.requires _ c.node_at-x.ensures c.if-x-eq3.true

pub write_node-q-requires-then-x-eq3 : goal.write_node-q-requires-then-x-eq3
write_node-q-requires-then-x-eq3 t c = some_inner _ _ _ _ _ _ _ c.requires _ c.node_at-x.ensures c.if-x-eq3.true _ _ c.write_some-p.ensures c.entered.result c.entered.ensures t c.decreases

pub write_byte-requires-then-x-eq3 : goal.write_byte-requires-then-x-eq3
write_byte-requires-then-x-eq3 t c = some_close _ _ _ _ _ _ _ c.requires _ c.node_at-x.ensures c.if-x-eq3.true _ _ c.write_some-p.ensures c.entered.result c.entered.ensures _ _ c.write_node-q-then-x-eq3.ensures

pub returns-then-x-eq3 : goal.returns-then-x-eq3
returns-then-x-eq3 t c = some_written _ _ _ _ _ _ _ c.requires _ c.node_at-x.ensures c.if-x-eq3.true _ _ c.write_some-p.ensures c.entered.result c.entered.ensures _ _ c.write_node-q-then-x-eq3.ensures _ _ c.write_byte-then-x-eq3.ensures

pub write_atom-requires : goal.write_atom-requires
write_atom-requires t c = let h = atom_ready _ _ _ _ _ _ _ c.requires _ c.node_at-x.ensures c.if-x-eq1.false c.if-x-eq2.false c.if-x-eq3.false in record { atom_ok = h.0; x_in_bounds = h.1 }

pub returns : goal.returns
returns t c = atom_written _ _ _ _ _ _ _ c.requires _ c.node_at-x.ensures c.if-x-eq1.false c.if-x-eq2.false c.if-x-eq3.false _ _ c.write_atom.ensures
