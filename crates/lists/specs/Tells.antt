-- A test that decides a claim: it says true exactly if the claim holds.
use Rattle.std.specs.Prelude.{Bool, true, false, ◌≡◌}

pub record Tells (b : Bool) (P : Type 0) : Type 0 where
  pub yes : b ≡ true → P
  pub no : b ≡ false → P → ⊥
