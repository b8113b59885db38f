-- What is left of the book decides, with the label before and what was found so far: each line that is read hands both on.
use Prim.Native.Nat.{◌-◌, ◌≤◌}
use mathlib.Core.Path.{◌≡◌}
use lib.ListN.{length, take, drop}
use Rattle.label_book.specs.Reading.{entries_from, look_up}
use Rattle.label_book.proofs.Follows.{follow}
use Rattle.label_book.proofs.look_up.Given as goal

abbrev pub invariant-loop-at : goal.invariant-loop-at
invariant-loop-at l =
    (l.at ≤ length l.book) × (l.from ≤ l.to) × (l.to ≤ length l.book)
    × (follow (take (l.to - l.from) (drop l.from l.book)) l.found l.at l.label (entries_from 0 (drop l.at l.book)) ≡ look_up l.book l.label)

abbrev pub decreases-loop-at : goal.decreases-loop-at
decreases-loop-at l = length l.book - l.at
