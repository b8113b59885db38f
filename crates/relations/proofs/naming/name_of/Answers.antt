-- The tests are those of the definition, up to a common moment.
use mathlib.Core.Path.{ap}
use Rattle.relations.proofs.Relation.{says_before, says_after}
use Rattle.relations.proofs.Named.{is_before, is_after, not_before, not_after, apart_none}
use Rattle.relations.proofs.naming.name_of.Goals as goal

pub returns-then-w-eq-BELOW : goal.returns-then-w-eq-BELOW
returns-then-w-eq-BELOW c s f t g e = says_before s f t g (is_before s f t g _ e c.if-w-eq-BELOW.true)

pub returns-then-w-eq-BELOW-2 : goal.returns-then-w-eq-BELOW-2
returns-then-w-eq-BELOW-2 c s f t g e = says_after s f t g (not_before s f t g _ e c.if-w-eq-BELOW.false) (is_after s f t g _ e c.if-w-eq-BELOW-2.true)

pub returns-then-have_common : goal.returns-then-have_common
returns-then-have_common c s f t g e = c.common_name.ensures s f t g (ap (λ v. v.starts) e) (ap (λ v. v.finishes) e)
    ((c.have_common.ensures s f t g e).yes c.if-have_common.true)

pub returns : goal.returns
returns c s f t g e = apart_none s f t g (not_before s f t g _ e c.if-w-eq-BELOW.false) (not_after s f t g _ e c.if-w-eq-BELOW-2.false)
    ((c.have_common.ensures s f t g e).no c.if-have_common.false)
