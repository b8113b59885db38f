-- Both words are 0 exactly if no digit is 1.
use borrow.Author.Tests.{eqb-true, eqb-false}
use native.Mathlib.Omega.{arith}
use Rattle.sets.proofs.Sets.{mem_none, some_low, some_high}
use Rattle.sets.proofs.none.Goals as goal

pub returns-then-s-eq0 : goal.returns-then-s-eq0
returns-then-s-eq0 c = record { yes = λ e j. mem_none _ c.if-s-eq0.true (eqb-true _ 0 e) j; no = λ e n. some_high _ (eqb-false _ 0 e) (omega arith) n }

pub returns-else-s-eq0 : goal.returns-else-s-eq0
returns-else-s-eq0 c = record { yes = λ e. absurd (c.if-s-eq0.false (eqb-true _ 0 e)); no = λ e n. some_low _ c.if-s-eq0.false (omega arith) n }
