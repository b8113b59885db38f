-- What is left of the name is that of the whole one.
use Rattle.signs.proofs.Spelled.{byte_behind, named_first, named_fits, name-ended, name-stopped, name-long, name_goes}
use Prim.Native.Nat.{◌+◌}
use native.Mathlib.Omega.{arith}
use borrow.Author.Rules.{rules}
use Rattle.signs.proofs.name_rest.Goals as goal

pub loop-i-init : goal.loop-i-init
loop-i-init c = search (rules, named_first)

pub returns-then-not-is_word_byte : goal.returns-then-not-is_word_byte
returns-then-not-is_word_byte c = search name-stopped

pub returns-then-i-eq-NAME_REST : goal.returns-then-i-eq-NAME_REST
returns-then-i-eq-NAME_REST c = search name-long

pub overflow_mul-n : goal.overflow_mul-n
overflow_mul-n c = omega (arith, named_fits _ _ _ _ c.loop-i.invariant c.if-i-eq-NAME_REST.false)

pub overflow_add-n : goal.overflow_add-n
overflow_add-n c =
    omega (arith, named_fits _ _ _ _ c.loop-i.invariant c.if-i-eq-NAME_REST.false, c.from.ensures, byte_behind c.args.text.now c.args.p c.loop-i.i c.requires c.loop-i-test.true, c.type_inv.text (c.args.p + 1 + c.loop-i.i))

pub loop-i-preserved : goal.loop-i-preserved
loop-i-preserved c =
    name_goes c.args.text.now c.args.p c.loop-i.i c.requires c.loop-i.n c.loop-i.invariant _ c.is_word_byte.ensures c.loop-i-test.true (search rules) c.if-i-eq-NAME_REST.false _ c.from.ensures (omega (arith, c.type_inv.text (c.args.p + 1 + c.loop-i.i)))

pub returns : goal.returns
returns c = search name-ended
