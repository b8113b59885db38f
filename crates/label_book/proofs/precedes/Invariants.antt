-- What is left of the two decides: the capitals passed are the same.
use mathlib.Core.Path.{◌≡◌}
use lib.ListN.{length, drop}
use Rattle.labels.specs.Label.{capitals}
use Rattle.label_book.specs.Reading.{before?}
use Rattle.label_book.proofs.precedes.Given as goal

abbrev pub invariant-loop-p : goal.invariant-loop-p
invariant-loop-p l =
    before? (drop (length l.yielded) (capitals l.s)) (drop (length l.yielded) (capitals l.t)) ≡ before? (capitals l.s) (capitals l.t)
