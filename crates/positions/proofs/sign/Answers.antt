-- The first test that holds names the sign; where neither holds the two are the same.
use mathlib.Core.Path.{sym}
use Rattle.positions.proofs.Signed.{sign_below, sign_above, sign_same}
use Rattle.positions.proofs.sign.Goals as goal

pub returns-then-a-b : goal.returns-then-a-b
returns-then-a-b c = sym (sign_below _ _ c.if-a-b.true)

pub returns-then-b-a : goal.returns-then-b-a
returns-then-b-a c = sym (sign_above _ _ c.if-b-a.true)

pub returns : goal.returns
returns c = sym (sign_same _ _ c.if-b-a.false c.if-a-b.false)
