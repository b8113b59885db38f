-- A table of numbers that a loop fills: before the first node.
use Prim.Native.Nat.{ℕ}
use mathlib.Core.List.{List}
use native.Mathlib.Omega.{arith}
use lib.ListN.{replicate}
use Rattle.lists.proofs.Lists.{zeros}
use Rattle.rules.specs.Formula.{Formula}
use Rattle.shape.specs.Tables.{TableOf}

pub table_none : (Says : Formula → ℕ → Type 0) (file : List ℕ) (p m : ℕ) → TableOf Says file p 0 (replicate m 0)
table_none Says file p m = record { nodes = λ k l. absurd (omega arith); rest = λ k l. zeros m k }
