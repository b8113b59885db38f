-- The call is made on what the reads brought, and what it hands back is what the writer asks for.
use Rattle.told.proofs.Told.{read_count}
use Rattle.label_text.proofs.Shown.{text_shown}
use Rattle.label_text.proofs.show_text.Goals as goal

pub slice_bounds-text_for-end : goal.slice_bounds-text_for-end
slice_bounds-text_for-end c = search read_count

pub slice_bounds-text_for-end-2 : goal.slice_bounds-text_for-end-2
slice_bounds-text_for-end-2 c = search read_count

pub print_text-requires : goal.print_text-requires
print_text-requires c = search text_shown
