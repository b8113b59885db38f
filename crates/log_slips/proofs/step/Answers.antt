-- By what the reader answers: the invariant is kept by each.
use Rattle.std.proofs.Common.{◌≡◌, ap, ◌∙◌}
use Rattle.std.specs.Prelude.{Some, Ok, Err}
use borrow.Author.Rules.{rules}
use Rattle.log_slips.proofs.Walking.{size_room, walk_valid, walk_lines, walk_done, walk_refused, line_starts, line_ends, walk_line}
use Rattle.log_slips.proofs.step.Goals as goal

pub returns-in-None : goal.returns-in-None
returns-in-None c = search (walk_done, rules)

pub refuse-requires : goal.refuse-requires
refuse-requires c = (search (size_room, rules), search (walk_lines, rules))

pub returns-in-Some-Err : goal.returns-in-Some-Err
returns-in-Some-Err c =
    let k : c.line_from-a.result.next ≡ Some (Err c.in-Some-Err.c) = c.in-Some-Err.is ∙ ap Some (rw c.in-Some-Err.is at c.in-Some-Err.field-0-is) in
    search (walk_refused, rules)

pub slice_bounds-take_line-count : goal.slice_bounds-take_line-count
slice_bounds-take_line-count c =
    let k : c.line_from-a.result.next ≡ Some (Ok c.in-Some-Ok.line) = c.in-Some-Ok.is ∙ ap Some (rw c.in-Some-Ok.is at c.in-Some-Ok.field-0-is) in
    search (line_starts, rules)

pub slice_bounds-take_line-start : goal.slice_bounds-take_line-start
slice_bounds-take_line-start c =
    let k : c.line_from-a.result.next ≡ Some (Ok c.in-Some-Ok.line) = c.in-Some-Ok.is ∙ ap Some (rw c.in-Some-Ok.is at c.in-Some-Ok.field-0-is) in
    search (line_starts, line_ends, rules)

pub slice_bounds-take_line-end : goal.slice_bounds-take_line-end
slice_bounds-take_line-end c =
    let k : c.line_from-a.result.next ≡ Some (Ok c.in-Some-Ok.line) = c.in-Some-Ok.is ∙ ap Some (rw c.in-Some-Ok.is at c.in-Some-Ok.field-0-is) in
    search (line_ends, rules)

pub take_line-requires : goal.take_line-requires
take_line-requires c = (search (walk_valid, rules), search (size_room, rules))

pub returns-in-Some-Ok : goal.returns-in-Some-Ok
returns-in-Some-Ok c =
    let k : c.line_from-a.result.next ≡ Some (Ok c.in-Some-Ok.line) = c.in-Some-Ok.is ∙ ap Some (rw c.in-Some-Ok.is at c.in-Some-Ok.field-0-is) in
    search (walk_line, rules)
