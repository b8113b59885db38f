-- The first that does not fit decides.
use native.Mathlib.Omega.{arith}
use Rattle.lists.proofs.Tells.{tell_yes, tell_no}
use Rattle.positions.proofs.all_fit.Goals as goal

pub returns-then-a-ge-BEYOND : goal.returns-then-a-ge-BEYOND
returns-then-a-ge-BEYOND c = tell_no (λ h. omega arith)

pub returns-then-b-ge-BEYOND : goal.returns-then-b-ge-BEYOND
returns-then-b-ge-BEYOND c = tell_no (λ h. omega arith)

pub returns-then-c-ge-BEYOND : goal.returns-then-c-ge-BEYOND
returns-then-c-ge-BEYOND c = tell_no (λ h. omega arith)

pub returns-then-d-ge-BEYOND : goal.returns-then-d-ge-BEYOND
returns-then-d-ge-BEYOND c = tell_no (λ h. omega arith)

pub returns : goal.returns
returns c = tell_yes (omega arith)
