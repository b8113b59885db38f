-- The array so far is the capitals of the first bytes, filled up with zeros.
use mathlib.Core.Path.{refl}
use Rattle.lists.specs.Lists.{pad}
use Rattle.labels.proofs.Same.{copy_next, copy_end}
use Rattle.labels.proofs.label_from.Goals as goal

pub loop-i-init : goal.loop-i-init
unfolding pad
loop-i-init c = refl

pub loop-i-preserved : goal.loop-i-preserved
loop-i-preserved c = search copy_next

pub returns : goal.returns
returns c = search copy_end
