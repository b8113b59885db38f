-- The bytes of a piece of the log: where they lie, and none where they do not all lie inside.
use Prim.Native.Nat.{ℕ, ◌+◌, ◌-◌, ◌≤◌, ◌<◌}
use mathlib.Core.Path.{◌≡◌, ap}
use mathlib.Core.List.{List}
use native.Mathlib.Omega.{arith}
use borrow.Author.Tests.{le-leb, lt-leb}
use lib.ListN.{length, take, drop}
use Rattle.label_book.specs.Piece.{bytes_inside}

module _ (log : List ℕ) (p n : ℕ) where
  pub behind_end : length log < p → take (0 - 0) (drop 0 log) ≡ bytes_inside log p n
  behind_end h = simp (lt-leb (p + n) (length log) (omega arith))

  module _ (h : p ≤ length log) where
    pub over_end : length log - p < n → take (0 - 0) (drop 0 log) ≡ bytes_inside log p n
    over_end k = simp (lt-leb (p + n) (length log) (omega arith))

    pub wholly_inside : n ≤ length log - p → take (p + n - p) (drop p log) ≡ bytes_inside log p n
    wholly_inside k =
        let e : p + n - p ≡ n = omega arith in
        simp (le-leb (p + n) (length log) (omega arith)) (ap (λ (j : ℕ). take j (drop p log)) e)

pub ruleset insides = (behind_end, over_end, wholly_inside)
