use native.Mathlib.Omega.{arith}
use Rattle.typed_file.proofs.Writing.{second-has, second_else}
use Rattle.typed_file.proofs.file.second_field.Goals as goal

pub returns-then-kind-eq4 : goal.returns-then-kind-eq4
returns-then-kind-eq4 c = search second-has

pub overflow_cast-result-2 : goal.overflow_cast-result-2
overflow_cast-result-2 c = let h = c.requires.1 c.if-kind-eq4.false in omega arith

pub returns : goal.returns
returns c = search second_else
