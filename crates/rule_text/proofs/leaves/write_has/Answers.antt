-- The label's capitals are the first bytes of the label that the file gives; they go between the quotes.
use mathlib.Core.Path.{◌≡◌, sym}
use native.Mathlib.Omega.{arith}
use lib.ListN.{length}
use lib.Seq.{length-take-le}
use borrow.Author.Rules.{rules}
use Rattle.rule_text.proofs.Spelling.{has_written, has_inside, has_end}
use Rattle.rule_text.proofs.leaves.write_has.Goals as goal

pub slice_bounds-capitals-end : goal.slice_bounds-capitals-end
slice_bounds-capitals-end c = let l = c.label_of-label in
    let e : length l.result.bytes ≡ 24 = search rules in
    omega (arith, l.ensures.1)

pub slice_bounds-append-end-2 : goal.slice_bounds-append-end-2
slice_bounds-append-end-2 c = let l = c.label_of-label in
    let e : length l.result.bytes ≡ 24 = search rules in
    sym (length-take-le l.result.length l.result.bytes (omega (arith, l.ensures.1)))

pub append-q-requires : goal.append-q-requires
append-q-requires c = search has_inside

pub append-requires : goal.append-requires
append-requires c = search has_end

pub returns : goal.returns
returns c = search has_written
