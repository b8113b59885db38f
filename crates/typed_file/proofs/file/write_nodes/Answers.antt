use native.Mathlib.Omega.{arith}
use Rattle.typed_file.proofs.Writing.{noded_first, noded_room, noded_next, noded_end}
use Rattle.typed_file.proofs.file.write_nodes.Goals as goal

pub loop-i-init : goal.loop-i-init
loop-i-init c = search noded_first

pub write_node-p-requires : goal.write_node-p-requires
write_node-p-requires c = let h = noded_room _ _ _ _ _ _ _ _ _ c.loop-i.invariant (omega arith) in record { fit = h.0; i_lt_n = h.1 }

pub loop-i-preserved : goal.loop-i-preserved
loop-i-preserved c = search noded_next

pub returns : goal.returns
returns c = search noded_end
