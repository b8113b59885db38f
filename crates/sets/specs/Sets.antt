-- How the code works, not what it means.
-- Sets of runs: two words of 64 bits, one bit for each of the 128 places of runs.
use Rattle.std.specs.Prelude.{ℕ, suc, ◌-◌, ◌/◌, ◌%◌, ◌^◌, Bool, cond, ltb, eqb}
use Rattle.lists.specs.Lists.{any_below}
use Rattle.sets.specs.declared.RunSet.{RunSet}

-- digit i of a is 1
unfoldable pub bit : ℕ → ℕ → Bool
bit a i = eqb (a / 2 ^ i % 2) 1

-- the set has j
unfoldable pub mem : RunSet → ℕ → Bool
mem s j = cond (ltb j 64) (bit s.lo j) (bit s.hi (j - 64))

-- some number up to j passes
abbrev pub any_up_to : ℕ → (ℕ → Bool) → Bool
any_up_to j p = any_below (suc j) p
