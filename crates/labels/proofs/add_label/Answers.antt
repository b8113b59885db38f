-- The label goes behind the last one, and its number to the place.
use mathlib.Core.Path.{refl}
use Rattle.labels.proofs.Table.{adds}
use Rattle.labels.proofs.add_label.Goals as goal

pub returns : goal.returns
returns c = adds _ _ _ _ refl
