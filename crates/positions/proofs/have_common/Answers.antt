-- The first sign that is another decides.
use Rattle.lists.proofs.Tells.{tell_yes, tell_no}
use Rattle.positions.proofs.Common.{has_common, common_before, common_after, common_first, common_second}
use Rattle.positions.proofs.have_common.Goals as goal

pub returns-then-w-ne-ABOVE : goal.returns-then-w-ne-ABOVE
returns-then-w-ne-ABOVE c s f t g e = tell_no (λ h. c.if-w-ne-ABOVE.true (common_before _ s f t g e h))

pub returns-then-w-ne-ABOVE-2 : goal.returns-then-w-ne-ABOVE-2
returns-then-w-ne-ABOVE-2 c s f t g e = tell_no (λ h. c.if-w-ne-ABOVE-2.true (common_after _ s f t g e h))

pub returns-then-w-ne-BELOW : goal.returns-then-w-ne-BELOW
returns-then-w-ne-BELOW c s f t g e = tell_no (λ h. c.if-w-ne-BELOW.true (common_first _ s f t g e h))

pub returns-then-w-ne-BELOW-2 : goal.returns-then-w-ne-BELOW-2
returns-then-w-ne-BELOW-2 c s f t g e = tell_no (λ h. c.if-w-ne-BELOW-2.true (common_second _ s f t g e h))

pub returns : goal.returns
returns c s f t g e = tell_yes (has_common _ s f t g e c.if-w-ne-ABOVE.false c.if-w-ne-ABOVE-2.false c.if-w-ne-BELOW.false c.if-w-ne-BELOW-2.false)
