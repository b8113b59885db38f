-- Each place passed has the number that the search for its label finds.
use Prim.Native.Nat.{ℕ, ◌<◌}
use mathlib.Core.Path.{◌≡◌}
use lib.ListN.{length, get_or}
use Rattle.labels.specs.Label.{label_of}
use Rattle.labels.specs.Search.{lookup}
use Rattle.rules.specs.Labels.{label_bytes}
use Rattle.logic.specs.Shown.{slot_number}
use Rattle.logic.proofs.shown.wanted_numbers.Given as goal

abbrev pub invariant-loop-p : goal.invariant-loop-p
invariant-loop-p l = (length l.numbers ≡ 16) × ((k : ℕ) → k < l.p → get_or l.numbers k 0 ≡ slot_number (lookup l.t (label_of (label_bytes l.file k))))
