-- A capital, and what goes on with it.
use Rattle.signs.proofs.Spelled.{no_name_end, no_name-small, name_read}
use Rattle.signs.proofs.name.Goals as goal
use Rattle.signs.proofs.name.Goals.{then-text-p-via-then-text-p, then-text-p-via-else-text-p+then-not-is_capital}

pub returns-then-text-p : goal.returns-then-text-p
returns-then-text-p c =
    elim c.then-text-p.branch [ then-text-p-via-then-text-p w ↦ search no_name_end | then-text-p-via-else-text-p+then-not-is_capital w ↦ search no_name-small ]

pub returns : goal.returns
returns c = search name_read
