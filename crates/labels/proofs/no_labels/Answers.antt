-- All labels are blank and all places empty.
use mathlib.Core.Path.{ap}
use lib.ListN.{replicate}
use Rattle.lists.specs.Lists.{pad}
use Rattle.labels.specs.declared.Label.{Label}
use Rattle.labels.specs.Label.{label_no}
use Rattle.labels.specs.Table.{places_of, insert_all}
use Rattle.labels.proofs.no_labels.Goals as goal

pub returns : goal.returns
unfolding pad places_of insert_all
returns c = ap (λ (x : Label). record { labels = replicate 64 x; places = replicate 128 (label_no 0); count = 0 }) c.no_label-blank.ensures
