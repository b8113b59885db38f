-- The length byte, and behind it the capitals: the first bytes of the label that is made of the piece.
use Prim.Native.Nat.{◌≤◌}
use mathlib.Core.Path.{◌≡◌, sym}
use native.Mathlib.Omega.{arith}
use lib.ListN.{length}
use lib.Seq.{length-take-le}
use borrow.Author.Rules.{rules}
use Rattle.typed_file.proofs.Writing.{label_few, label_fits, wrote_label}
use Rattle.typed_file.proofs.file.write_label.Goals as goal

pub slice_bounds-capitals-end : goal.slice_bounds-capitals-end
slice_bounds-capitals-end c = let l = c.label_from-label.result in
    let e : length l.bytes ≡ 24 = search rules in
    let h : l.length ≤ 24 = search label_few in
    omega arith

pub slice_bounds-append-end-2 : goal.slice_bounds-append-end-2
slice_bounds-append-end-2 c = let l = c.label_from-label.result in
    let e : length l.bytes ≡ 24 = search rules in
    let h : l.length ≤ 24 = search label_few in
    sym (length-take-le l.length l.bytes (omega arith))

pub append-requires : goal.append-requires
append-requires c = search label_fits

pub returns : goal.returns
returns c = search wrote_label
