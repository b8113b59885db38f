-- No quote is passed.
use Rattle.signs.proofs.Quotes.{Unquoted}
use Rattle.signs.proofs.quote.Given as goal

abbrev pub invariant-loop-i : goal.invariant-loop-i
invariant-loop-i l = Unquoted l.text l.at l.i
