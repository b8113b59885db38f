-- The loop's invariant: the lines of the verdict bytes passed are written, each of at most 6 bytes.
use Prim.Native.Nat.{◌*◌, ◌≤◌}
use mathlib.Core.Path.{◌≡◌}
use lib.ListN.{length}
use Rattle.text_pieces.specs.Writing.{Writes}
use Rattle.report.specs.RecordText.{lines_to}
use Rattle.report.proofs.put_lines.Given as goal

abbrev pub invariant-loop-i : goal.invariant-loop-i
invariant-loop-i l =
    (l.at ≤ 6 * l.i) × (length l.text ≡ length l.initial.text) × Writes (lines_to l.verdicts l.i) l.initial.text 0 l.text l.at
