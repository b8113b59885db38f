-- A label's length is that of its word.
use native.Mathlib.Omega.{arith}
use mathlib.Core.Path.{ap}
use lib.ListN.{length-map}
use Rattle.labels.specs.declared.Label.{Label}
use Rattle.labels.specs.Label.{capital, label_of}
use Rattle.labels_test.proofs.table.label.Goals as goal

pub returns-then-word-gt24 : goal.returns-then-word-gt24
returns-then-word-gt24 c = omega (arith, ap (λ (x : Label). x.length) c.no_label.ensures)

pub returns : goal.returns
unfolding label_of
returns c = let word = c.args.word.now in
    omega (arith, ap (λ (x : Label). x.length) c.label_from.ensures, length-map word capital)
