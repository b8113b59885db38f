-- One case for each way out; the file is that of the tree.
use Rattle.typed_file.proofs.Answers.{answer_room, answer_outside, answer_refused, places_inside, places_count, answer_fits, answer_written}
use borrow.Author.Rules.{rules}
use Rattle.typed_file.proofs.rule_from_text.Goals as goal

pub returns-then-out-lt-FILE_ROOM : goal.returns-then-out-lt-FILE_ROOM
returns-then-out-lt-FILE_ROOM c = search answer_room

pub returns-in_default : goal.returns-in_default
returns-in_default c = answer_outside _ _ c.if-out-lt-FILE_ROOM.false _ c.in_default.ensures

pub slice_bounds-places-end : goal.slice_bounds-places-end
slice_bounds-places-end c = places_inside _ c.args.out.now c.if-out-lt-FILE_ROOM.false _ _ c.in-Some.ensures _ _ _ c.decide.ensures _ c.in-Ok.is

pub slice_bounds-parts-end-in-Ok : goal.slice_bounds-parts-end-in-Ok
slice_bounds-parts-end-in-Ok c = places_count _ c.args.out.now c.if-out-lt-FILE_ROOM.false _ _ c.in-Some.ensures _ _ _ c.decide.ensures _ c.in-Ok.is

pub write_file-requires : goal.write_file-requires
write_file-requires c = record { fit = answer_fits _ c.args.out.now c.if-out-lt-FILE_ROOM.false _ _ c.in-Some.ensures _ _ _ c.decide.ensures _ c.in-Ok.is; in_bounds = search rules }

pub returns-in-Err : goal.returns-in-Err
returns-in-Err c = answer_refused _ _ c.if-out-lt-FILE_ROOM.false _ _ c.in-Some.ensures _ _ _ c.decide.ensures _ c.in-Err.is _ c.from.ensures

pub returns-in-Ok : goal.returns-in-Ok
returns-in-Ok c = answer_written _ c.args.out.now c.if-out-lt-FILE_ROOM.false _ _ c.in-Some.ensures _ _ _ c.decide.ensures _ c.in-Ok.is _ _ c.write_file.ensures
