-- The call is made on what the reads brought, and the line of its refusal is what the writer asks for.
use Rattle.told.proofs.Told.{read_count}
use Rattle.label_text.proofs.Shown.{refusal-shown}
use Rattle.label_text.proofs.show_refusal.Goals as goal

pub slice_bounds-piece_for-end : goal.slice_bounds-piece_for-end
slice_bounds-piece_for-end c = search read_count

pub slice_bounds-piece_for-end-2 : goal.slice_bounds-piece_for-end-2
slice_bounds-piece_for-end-2 c = search read_count

pub print_refusal-requires : goal.print_refusal-requires
print_refusal-requires c = search refusal-shown
