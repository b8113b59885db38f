-- What is counted lies within the buffer, whose length stays, and has no LF before its last byte.
use Prim.Native.Nat.{◌≤◌}
use mathlib.Core.Path.{◌≡◌}
use mathlib.Core.Bool.{false}
use lib.ListN.{length, take}
use Rattle.lists.specs.Lists.{has?}
use Rattle.watch.proofs.read_line.Given as goal

abbrev pub invariant-loop-n : goal.invariant-loop-n
invariant-loop-n l = (length l.line ≤ 40) × (has? 10 (take l.n l.line) ≡ false)
