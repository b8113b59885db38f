-- One case for each way out.
use Rattle.typed_checks.proofs.Steps.{bound-cases}
use Rattle.typed_checks.proofs.bound_step.Goals as goal

pub returns-then-kind-lt4 : goal.returns-then-kind-lt4
returns-then-kind-lt4 c = search bound-cases

pub returns-then-kind-eq4 : goal.returns-then-kind-eq4
returns-then-kind-eq4 c = search bound-cases

pub returns-else-kind-eq4 : goal.returns-else-kind-eq4
returns-else-kind-eq4 c = search bound-cases

pub returns-else-a-ne255 : goal.returns-else-a-ne255
returns-else-a-ne255 c = search bound-cases

pub returns-else-ok : goal.returns-else-ok
returns-else-ok c = search bound-cases
