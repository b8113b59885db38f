-- A place of the table is the signs of the starts and of the finishes.
use native.Mathlib.Omega.{arith}
use Rattle.positions.proofs.Signed.{signed}
use Rattle.relations.proofs.Named as named
use Rattle.relations.proofs.naming.common_name.Goals as goal

pub returns-in-0 : goal.returns-in-0
returns-in-0 c s f t g x y k = named.common_overlaps s f t g _ _ (signed s t _ x) (signed f g _ y) k c.in-0.is

pub returns-in-2 : goal.returns-in-2
returns-in-2 c s f t g x y k = named.common_includes s f t g _ _ (signed s t _ x) (signed f g _ y) k c.in-2.is

pub returns-in-6 : goal.returns-in-6
returns-in-6 c s f t g x y k = named.common_during s f t g _ _ (signed s t _ x) (signed f g _ y) k c.in-6.is

pub returns-in-8 : goal.returns-in-8
returns-in-8 c s f t g x y k = named.common_overlapped s f t g _ _ (signed s t _ x) (signed f g _ y) k c.in-8.is

pub returns-in_default : goal.returns-in_default
returns-in_default c s f t g x y k = named.common_none s f t g _ _ (signed s t _ x) (signed f g _ y) k (λ e. omega arith) (λ e. omega arith) (λ e. omega arith) (λ e. omega arith)
