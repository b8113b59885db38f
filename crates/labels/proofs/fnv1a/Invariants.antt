-- The hash of the bytes is the hash of those left, started at the hash so far.
use mathlib.Core.Path.{◌≡◌}
use lib.ListN.{drop}
use Rattle.labels.specs.Fnv.{fnv_of, fnv_from}
use Rattle.labels.proofs.fnv1a.Given as goal

abbrev pub invariant-loop-b : goal.invariant-loop-b
invariant-loop-b l = fnv_of l.bytes ≡ fnv_from l.h (drop l.b-index l.bytes)
