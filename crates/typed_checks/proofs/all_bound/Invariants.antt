-- The answer so far is that for the nodes passed.
use mathlib.Core.Bool.{true}
use mathlib.Core.Path.{◌≡◌}
use Rattle.typed_checks.specs.Tests.{bound_step}
use Rattle.typed_checks.specs.Fold.{fold_nodes}
use Rattle.typed_checks.proofs.all_bound.Given as goal

abbrev pub invariant-loop-i : goal.invariant-loop-i
invariant-loop-i l = l.ok ≡ fold_nodes bound_step true l.table 0 l.i
