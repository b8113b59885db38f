-- The place is kept where the label is none of those listed.
use native.Mathlib.Omega.{arith}
use mathlib.Core.Path.{sym}
use lib.Seq.{length-take-le}
use Rattle.typed_checks.proofs.Steps.{note-cases}
use Rattle.typed_checks.proofs.note.Goals as goal

pub returns-then-kind-ne4 : goal.returns-then-kind-ne4
returns-then-kind-ne4 c = search note-cases

pub slice_bounds-find-end-2 : goal.slice_bounds-find-end-2
slice_bounds-find-end-2 c = sym (length-take-le _ _ (omega arith))

pub returns-then-find-m : goal.returns-then-find-m
returns-then-find-m c = search note-cases

pub returns : goal.returns
returns c = search note-cases
