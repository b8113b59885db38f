-- The two bytes make the number that the definition tests.
use native.Mathlib.Omega.{arith}
use Rattle.rules.proofs.Parts.{version-short, version_bad, version_ok}
use Rattle.rules.proofs.front.version.Goals as goal

pub returns-then-file-lt5 : goal.returns-then-file-lt5
returns-then-file-lt5 c = search version-short

pub returns-then-from_le_bytes-ne1 : goal.returns-then-from_le_bytes-ne1
returns-then-from_le_bytes-ne1 c = version_bad _ c.if-file-lt5.false (λ e. c.if-from_le_bytes-ne1.true (omega (arith, c.from_le_bytes.ensures, e)))

pub returns : goal.returns
returns c = version_ok _ c.if-file-lt5.false (omega (arith, c.from_le_bytes.ensures, c.if-from_le_bytes-ne1.false))
