use Prim.Native.Nat.{ℕ, ◌<◌}
use mathlib.Core.Path.{◌≡◌}
use lib.ListN.{length, get_or}
use Rattle.slip_search.specs.First.{RankFor}
use Rattle.slip_search.proofs.ranks_of.Given as goal

abbrev pub invariant-loop-rank : goal.invariant-loop-rank
invariant-loop-rank l = (length l.ranks ≡ 128) × ((k : ℕ) → k < 128 → RankFor l.fn.o l.rank k (get_or l.ranks k 0))
