-- The label's bytes are those before its length.
use borrow.Author.Rules.{rules}
use mathlib.Core.Path.{◌≡◌, ap, sym}
use native.Mathlib.Omega.{arith}
use Prim.Native.Nat.{ℕ, ◌%◌}
use lib.ListN.{length}
use lib.Seq.{length-take-le}
use Rattle.labels.specs.Table.{first_place}
use Rattle.labels.proofs.first_place.Goals as goal

pub slice_bounds-bytes-end : goal.slice_bounds-bytes-end
slice_bounds-bytes-end c = let e : length c.args.x.bytes ≡ 24 = search rules in
    omega arith

pub slice_bounds-fnv1a-end : goal.slice_bounds-fnv1a-end
slice_bounds-fnv1a-end c = let a = c.args.x in
    let e : length a.bytes ≡ 24 = search rules in
    sym (length-take-le a.length a.bytes (omega arith))

pub returns : goal.returns
unfolding first_place
returns c = ap (λ (h : ℕ). h % 128) c.fnv1a.ensures
