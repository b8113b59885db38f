-- The capitals passed are the same in both, and none is a quote.
use Rattle.text_labels.proofs.LabelPieces.{same_first, same_differ, same_end, same_next, same_out}
use Rattle.text_labels.proofs.same_from.Goals as goal

pub loop-i-init : goal.loop-i-init
loop-i-init c = search same_first

pub returns-then-x-capital_or_quote : goal.returns-then-x-capital_or_quote
returns-then-x-capital_or_quote c = search same_differ

pub returns-then-x-eq39 : goal.returns-then-x-eq39
returns-then-x-eq39 c = search same_end

pub loop-i-preserved : goal.loop-i-preserved
loop-i-preserved c = same_next _ _ _ _ c.loop-i.invariant _ _ c.capital_or_quote-x.ensures c.capital_or_quote.ensures c.if-x-capital_or_quote.false c.if-x-eq39.false

pub returns : goal.returns
returns c = search same_out
