-- One case for each way out.
use Rattle.typed_checks.proofs.Steps.{few-cases}
use Rattle.typed_checks.proofs.few_step.Goals as goal

pub returns-then-kind-ne3 : goal.returns-then-kind-ne3
returns-then-kind-ne3 c = search few-cases

pub returns-else-kind-ne3 : goal.returns-else-kind-ne3
returns-else-kind-ne3 c = search few-cases

pub returns-else-ok : goal.returns-else-ok
returns-else-ok c = search few-cases
