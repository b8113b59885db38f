-- What is counted is the fields of the nodes passed.
use borrow.Author.Rules.{rules}
use Rattle.rule_file.proofs.WholeTable.{named_first, named_next, named_end}
use Rattle.rule_file.proofs.checks.times_named.Goals as goal

pub loop-i-init : goal.loop-i-init
loop-i-init c = (search rules, named_first _ _ _)

pub loop-i-preserved : goal.loop-i-preserved
loop-i-preserved c = (search rules, search named_next)

pub returns : goal.returns
returns c = search named_end
