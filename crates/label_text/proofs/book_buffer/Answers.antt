-- There are as many zeros as there is room. The law is said of any number, so that no check counts to this one.
use Prim.Native.Nat.{ℕ}
use mathlib.Core.Path.{◌≡◌, sym}
use lib.ListN.{length, replicate, length-replicate}
use Rattle.label_text.specs.Printed.{book_room}
use Rattle.label_text.proofs.book_buffer.Goals as goal

zeros-long : (n : ℕ) → n ≡ length {A = ℕ} (replicate n 0)
zeros-long n = sym (length-replicate n 0)

pub returns : goal.returns
returns c = zeros-long book_room
