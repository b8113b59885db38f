-- The length stands at the label's place, and its bytes are copied behind it.
use Prim.Native.Nat.{ℕ}
use mathlib.Core.Path.{refl, ◌∙◌, sym}
use native.Mathlib.Omega.{arith}
use borrow.Author.Rules.{rules}
use lib.ListN.{get_or, length-set}
use Rattle.record_bytes.specs.Form.{packed_label}
use Rattle.record_bytes.proofs.Joined.{length_values, stored_first, stored_part, values_are}
use Rattle.record_bytes.proofs.write.put_label.Goals as goal

pub returns : goal.returns
unfolding packed_label
returns c = let text : ℕ → ℕ = λ k. get_or c.args.x.bytes k 0 in
    stored_first _ _ _ _ _ _
    (stored_part _ _ _ _ _
    (c.copy_from_slice.ensures.after ∙ sym (values_are text 0 24 c.args.x.bytes (search rules) (λ i h. refl)))
    (omega (arith, length_values text 24))
    (simp length-set (omega arith)))
    refl
