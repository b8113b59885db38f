-- The search of the table is the search from the place at hand, through the places that are left.
use mathlib.Core.Path.{◌≡◌}
use Prim.Native.Nat.{◌+◌, ◌-◌, ◌%◌}
use Rattle.labels.specs.Table.{place_at, label_at}
use Rattle.labels.specs.Search.{probe, lookup}
use Rattle.labels.proofs.find_label.Given as goal

abbrev pub invariant-loop-k : goal.invariant-loop-k
invariant-loop-k l = lookup l.t l.x ≡ probe (place_at l.t.places) (label_at l.t.labels) l.x ((l.first + l.k) % 128) (128 - l.k)
