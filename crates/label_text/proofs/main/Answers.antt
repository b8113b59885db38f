-- The buffers are as long as the readers ask.
use mathlib.Core.Path.{refl}
use Rattle.label_text.proofs.main.Goals as goal

pub slice_bounds-read_label-end : goal.slice_bounds-read_label-end
slice_bounds-read_label-end c = refl

pub read_label-b-requires : goal.read_label-b-requires
read_label-b-requires c = refl
