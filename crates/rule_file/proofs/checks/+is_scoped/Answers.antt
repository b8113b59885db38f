-- By the kind, the answer is that for the formula of the node.
use Rattle.rule_file.proofs.WholeTable.{scopes}
use Rattle.rule_file.proofs.checks.+is_scoped.Goals as goal

pub returns-then-is_scoped : goal.returns-then-is_scoped
returns-then-is_scoped t c = search scopes

pub returns-else-is_scoped : goal.returns-else-is_scoped
returns-else-is_scoped t c = search scopes

pub returns-in-2 : goal.returns-in-2
returns-in-2 t c = search scopes

pub returns-in-3 : goal.returns-in-3
returns-in-3 t c = search scopes

pub returns-in-4 : goal.returns-in-4
returns-in-4 t c = search scopes

pub returns-then-is_bound : goal.returns-then-is_bound
returns-then-is_bound t c = search scopes

pub returns-else-is_bound : goal.returns-else-is_bound
returns-else-is_bound t c = search scopes
