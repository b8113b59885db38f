use borrow.Author.Rules.{rules}
use Rattle.signs.proofs.Places.{passed_blank, at_sign, at_end}
use Rattle.signs.proofs.skip.Goals as goal

pub returns-then-not-is_blank : goal.returns-then-not-is_blank
returns-then-not-is_blank c = search at_sign

pub loop-i-preserved : goal.loop-i-preserved
loop-i-preserved c = search (rules, passed_blank)

pub returns : goal.returns
returns c = search (rules, at_end)
