-- One byte is compared at the place of the next sign.
use Rattle.signs.proofs.Places.{one-sign}
use Rattle.signs.proofs.sign.Goals as goal
use Rattle.signs.proofs.sign.Goals.{else-p-text-via-then-p-text+else-text-p, else-p-text-via-else-p-text}

pub returns-then-text-p : goal.returns-then-text-p
returns-then-text-p c = search one-sign

pub returns : goal.returns
returns c = elim c.else-p-text.branch [ else-p-text-via-then-p-text+else-text-p w ↦ search one-sign | else-p-text-via-else-p-text w ↦ search one-sign ]
