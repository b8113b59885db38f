-- A fact that evaluators of rules share.
use Prim.Native.Nat.{ℕ, ◌≤◌}
use native.Mathlib.Omega.{arith}
use Rattle.rules.specs.Table.{AtomOk}
use Rattle.rules.specs.declared.Node.{Node}

-- a node's fields fit a longer list of labels
pub atom_more : (l m : ℕ) (x : Node) → AtomOk l x → l ≤ m → AtomOk m x
atom_more l m x o h = record { low = o.low; high = o.high; first = o.first; place = λ e. omega (arith, o.place e); second = o.second }
