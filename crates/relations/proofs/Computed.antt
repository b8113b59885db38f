-- The rule of the table of compositions: the entry at 64 × first + second is the composition of the two. A list of 4,096 that
-- passes the test at each of its places keeps to the rule.
use Prim.Native.Nat.{ℕ, ◌<◌, ◌/◌, ◌%◌}
use mathlib.Core.Path.{◌≡◌}
use mathlib.Core.Bool.{Bool}
use mathlib.Core.List.{List}
use native.Mathlib.Omega.{arith}
use lib.Dec.{T, eqb, eqb→eq}
use lib.ListN.{length, get_or}
use Rattle.relations.specs.Compose.{compose_of}
use Rattle.relations.proofs.Entries.{every, at}

abbrev pub right? : ℕ → ℕ → Bool
right? k x = eqb x (compose_of (k / 64) (k % 64))

pub entry_right : (entries : List ℕ) (k : ℕ) → T (every right? 0 entries) → length entries ≡ 4096 → k < 4096
    → get_or entries k 0 ≡ compose_of (k / 64) (k % 64)
entry_right entries k t e h = eqb→eq (get_or entries k 0) (compose_of (k / 64) (k % 64)) (at right? entries t k (omega arith))
