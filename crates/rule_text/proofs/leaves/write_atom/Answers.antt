-- One case for each kind.
use Rattle.rule_text.proofs.Spelling.{room_has, room_before, room_overlaps, room_includes, room_same, wrote_has, wrote_before, wrote_overlaps, wrote_includes, wrote_same}
use Rattle.rule_text.proofs.leaves.write_atom.Goals as goal

pub write_has-requires : goal.write_has-requires
write_has-requires c = let h = room_has _ _ _ c.args.out.now _ c.requires.x_in_bounds 0 c.requires.atom_ok.0 c.requires.atom_ok.1 c.if-kind-eq4.true in record { labels_ok = h.0; n_in_bounds = h.1 }

pub returns-then-kind-eq4 : goal.returns-then-kind-eq4
returns-then-kind-eq4 c = search wrote_has

pub name_of-b-requires : goal.name_of-b-requires
name_of-b-requires c = c.requires.atom_ok.0.second c.if-kind-eq4.false

pub write_pair-requires : goal.write_pair-requires
write_pair-requires c = search room_before

pub returns-then-kind-eq5 : goal.returns-then-kind-eq5
returns-then-kind-eq5 c = search wrote_before

pub write_pair-requires-then-kind-eq6 : goal.write_pair-requires-then-kind-eq6
write_pair-requires-then-kind-eq6 c = search room_overlaps

pub returns-then-kind-eq6 : goal.returns-then-kind-eq6
returns-then-kind-eq6 c = search wrote_overlaps

pub write_pair-requires-then-kind-eq7 : goal.write_pair-requires-then-kind-eq7
write_pair-requires-then-kind-eq7 c = search room_includes

pub returns-then-kind-eq7 : goal.returns-then-kind-eq7
returns-then-kind-eq7 c = search wrote_includes

pub write_same-requires : goal.write_same-requires
write_same-requires c = search room_same

pub returns : goal.returns
returns c = search wrote_same
