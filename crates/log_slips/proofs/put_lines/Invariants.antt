-- The invariant is `Walked`; each line that is read on leaves fewer bytes.
use Prim.Native.Nat.{◌-◌}
use mathlib.Core.Path.{◌≡◌}
use lib.ListN.{length}
use Rattle.log_slips.specs.Walk.{Walked}
use Rattle.log_slips.proofs.Whole.{lines_left}
use Rattle.log_slips.proofs.put_lines.Given as goal

abbrev pub invariant-loop-w : goal.invariant-loop-w
invariant-loop-w l = Walked l.file l.log l.w l.text × (length l.text ≡ length l.initial.text)

abbrev pub decreases-loop-w : goal.decreases-loop-w
decreases-loop-w l = lines_left l.w.more (length l.log - l.w.place)
