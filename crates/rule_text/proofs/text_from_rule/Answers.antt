-- One case for each way out; the text of a rule of 64 nodes fits.
use Rattle.rule_text.proofs.Room.{text_room_lem, text_refused, text_some, text_ready, text_written}
use Rattle.rule_text.proofs.text_from_rule.Goals as goal

pub returns-then-out-lt-TEXT_ROOM : goal.returns-then-out-lt-TEXT_ROOM
returns-then-out-lt-TEXT_ROOM c = search text_room_lem

pub overflow_sub-root : goal.overflow_sub-root
overflow_sub-root c = text_some _ c.args.out.now c.if-out-lt-TEXT_ROOM.false _ c.read_rule-read.ensures _ c.in-Ok.is

pub write_node-requires : goal.write_node-requires
write_node-requires c = text_ready _ c.args.out.now c.if-out-lt-TEXT_ROOM.false _ c.read_rule-read.ensures _ c.in-Ok.is c.no_levels-none.result c.no_levels-none.ensures

pub returns-in-Err : goal.returns-in-Err
returns-in-Err c = rw c.from.ensures (search text_refused)

pub returns-in-Ok : goal.returns-in-Ok
returns-in-Ok c = text_written _ c.args.out.now c.if-out-lt-TEXT_ROOM.false _ c.read_rule-read.ensures _ c.in-Ok.is c.no_levels-none.result c.no_levels-none.ensures _ _ c.write_node.ensures
