-- Three bytes, appended.
use Rattle.typed_file.proofs.Writing.{fit_kind, fit_first, fit_second, wrote_node}
use Rattle.typed_file.proofs.file.write_node.Goals as goal

pub overflow_cast-node : goal.overflow_cast-node
overflow_cast-node c = search fit_kind

pub overflow_cast-node-2 : goal.overflow_cast-node-2
overflow_cast-node-2 c = search fit_first

pub second_field-second-requires : goal.second_field-second-requires
second_field-second-requires c = fit_second _ _ _ _ c.requires.fit _ c.requires.i_lt_n.0

pub returns : goal.returns
returns c = search wrote_node
