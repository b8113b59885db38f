-- How the code works, not what it means.
-- Bytes that say of each node how many "some" lie one inside another in it, and which variables stand free in it.
use Rattle.std.specs.Prelude.{ℕ, ◌<◌, ◌≤◌, ◌≡◌, true, List, length, get_or}
use Rattle.sets.specs.Sets.{bit}
use Rattle.rules.specs.Table.{formula_at}
use Rattle.shape.specs.Shape.{free?, height}

-- a byte for each node up to n: how many "some" lie one inside another in it
pub record Heights (file : List ℕ) (p n : ℕ) (heights : List ℕ) : Type 0 where
  pub long : n < length heights
  pub high : (i : ℕ) → i ≤ n → get_or heights i 0 ≡ height (formula_at file p i)

-- a byte for each node up to n, with bit v set if variable v stands free in the node
pub record Frees (file : List ℕ) (p n : ℕ) (frees : List ℕ) : Type 0 where
  pub long : n < length frees
  pub free : (i : ℕ) → i ≤ n → (v : ℕ) → free? (formula_at file p i) v ≡ true → bit (get_or frees i 0) v ≡ true
