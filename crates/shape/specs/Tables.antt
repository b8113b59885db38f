-- How the code works, not what it means.
-- Tables of numbers, one for each node of a rule: what the number of a node says of its formula.
use Rattle.std.specs.Prelude.{ℕ, ◌≤◌, ◌<◌, ◌≡◌, List, get_or}
use Rattle.sets.specs.Sets.{bit}
use Rattle.rules.specs.Formula.{Formula}
use Rattle.rules.specs.Table.{formula_at}
use Rattle.shape.specs.Shape.{free?, height}

-- the digits that are 1: the variables that stand free
abbrev pub FreeMask : Formula → ℕ → Type 0
FreeMask f a = (w : ℕ) → bit a w ≡ free? f w

-- how many "some" lie one inside another at most
abbrev pub Height : Formula → ℕ → Type 0
Height f a = a ≡ height f

-- The numbers of the first n nodes say Says of their formulas. The table of nodes starts at place p of the file.
abbrev pub Passed : (Formula → ℕ → Type 0) → List ℕ → ℕ → ℕ → List ℕ → Type 0
Passed Says file p n numbers = (k : ℕ) → k < n → Says (formula_at file p k) (get_or numbers k 0)

-- a whole table of numbers: those of the nodes, and 0 behind them
pub record TableOf (Says : Formula → ℕ → Type 0) (file : List ℕ) (p count : ℕ) (numbers : List ℕ) : Type 0 where
  pub nodes : Passed Says file p count numbers
  pub rest : (k : ℕ) → count ≤ k → get_or numbers k 0 ≡ 0
