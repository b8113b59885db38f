-- The mark of rows becomes the mark for each run, and nothing else changes.
use mathlib.Core.Path.{refl}
use native.Mathlib.Omega.{arith}
use borrow.Author.Tests.{eq-eqb, ne_eqb}
use Rattle.matrix.proofs.keep.each_row.Goals as goal

pub returns-then-x-eq-ROWS : goal.returns-then-x-eq-ROWS
returns-then-x-eq-ROWS c = (rw (eq-eqb _ 129 c.if-x-eq-ROWS.true) refl, omega arith)

pub returns-else-x-eq-ROWS : goal.returns-else-x-eq-ROWS
returns-else-x-eq-ROWS c = let n = c.if-x-eq-ROWS.false in (rw (ne_eqb _ 129 n) refl, omega arith)
