-- What is counted is the fields of the nodes passed.
use Prim.Native.Nat.{◌*◌, ◌≤◌}
use mathlib.Core.Path.{◌≡◌}
use Rattle.rules.specs.Checks.{times_named}
use Rattle.rule_file.proofs.checks.times_named.Given as goal

abbrev pub invariant-loop-i : goal.invariant-loop-i
invariant-loop-i l = (l.n ≤ 2 * l.i) × (l.n ≡ times_named l.file l.first l.i l.c)
