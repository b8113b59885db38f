-- A reader that goes on from a later place.
use Prim.Native.Nat.{ℕ, ◌*◌, ◌≤◌}
use mathlib.Core.Path.{◌≡◌}
use mathlib.Core.List.{List}
use native.Mathlib.Omega.{arith}
use lib.ListN.{length}
use Rattle.atoms.specs.Readers.{Ready}

pub ready_at : (text : List ℕ) (at : ℕ) (ns : List ℕ) (k : ℕ) (b : List ℕ) → Ready text at ns k b → (p n : ℕ) (m : List ℕ) → p ≤ length text → n ≤ 4 * p → length m ≡ length b → Ready text p ns n m
ready_at text at ns k b y p n m h l e =
    record { inside = h; short = y.short; few = l; names = y.names; whole = omega (arith, y.whole) }
