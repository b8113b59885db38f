-- No quote is passed.
use Rattle.signs.proofs.Quotes.{quote_found, quote_passed, quote_none}
use mathlib.Core.Path.{refl}
use native.Mathlib.Omega.{arith}
use Rattle.signs.proofs.quote.Goals as goal

pub loop-i-init : goal.loop-i-init
loop-i-init c = (refl, refl, omega arith, omega arith)

pub returns-then-text-i-eq39 : goal.returns-then-text-i-eq39
returns-then-text-i-eq39 c = search quote_found

pub loop-i-preserved : goal.loop-i-preserved
loop-i-preserved c = search quote_passed

pub returns : goal.returns
returns c = search quote_none
