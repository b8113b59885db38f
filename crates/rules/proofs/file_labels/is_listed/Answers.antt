-- The labels passed differ from the one at hand; each ends before it starts.
use mathlib.Core.Path.{refl}
use native.Mathlib.Omega.{arith}
use Rattle.rules.specs.Labels.{listed}
use Rattle.rules.proofs.Labels.{place_first, place_next, place_inside, listed_next, listed-stop, listed_end}
use Rattle.rules.proofs.file_labels.is_listed.Goals as goal

pub loop-m-init : goal.loop-m-init
unfolding listed
loop-m-init c = (place_first _, refl)

pub overflow_add-a : goal.overflow_add-a
overflow_add-a c = omega (arith, place_inside _ _ _ _ _ c.loop-m.invariant.0 c.requires.0 (omega arith))

pub bounds-file-p : goal.bounds-file-p
bounds-file-p c = omega (arith, place_inside _ _ _ _ _ c.loop-m.invariant.0 c.requires.0 (omega arith))

pub overflow_add-e : goal.overflow_add-e
overflow_add-e c = omega (arith, place_inside _ _ _ _ _ c.loop-m.invariant.0 c.requires.0 (omega arith))

pub slice_bounds-same_label-end : goal.slice_bounds-same_label-end
slice_bounds-same_label-end c = omega (arith, place_inside _ _ _ _ _ c.loop-m.invariant.0 c.requires.0 (omega arith))

pub returns-then-same_label : goal.returns-then-same_label
returns-then-same_label c = search listed-stop

pub loop-m-preserved : goal.loop-m-preserved
loop-m-preserved c = (search place_next, search listed_next)

pub returns : goal.returns
returns c = search listed_end
