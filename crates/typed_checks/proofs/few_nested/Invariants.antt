-- The answer so far is that for the nodes passed.
use mathlib.Core.Bool.{true}
use mathlib.Core.Path.{◌≡◌}
use Rattle.typed_checks.specs.Tests.{few_step}
use Rattle.typed_checks.specs.Fold.{fold_nodes}
use Rattle.typed_checks.proofs.few_nested.Given as goal

abbrev pub invariant-loop-i : goal.invariant-loop-i
invariant-loop-i l = l.ok ≡ fold_nodes few_step true l.table 0 l.i
