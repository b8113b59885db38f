-- The variable's place is set, the others stay.
use Rattle.rule_file.proofs.WholeTable.{enter-set}
use borrow.Author.Rules.{rules}
use Rattle.rule_file.proofs.checks.entered.Goals as goal

pub returns : goal.returns
returns c = enter-set c.args.vars.bound c.args.v (search rules)
