-- The three checks in order; the first that fails is the answer.
use Rattle.rule_file.proofs.WholeTable.{wholes}
use Rattle.rule_file.proofs.checks.whole.Goals as goal

pub returns-then-not-named_once : goal.returns-then-not-named_once
returns-then-not-named_once c = search wholes

pub returns-then-not-is_closed : goal.returns-then-not-is_closed
returns-then-not-is_closed c = search wholes

pub returns-then-not-nesting_ok : goal.returns-then-not-nesting_ok
returns-then-not-nesting_ok c = search wholes

pub returns : goal.returns
returns c = search wholes
