-- The answer with a tally is what `check_line_tallied` answers: its tally is the lent one's new value, and the rest is what is left of it.
use Rattle.lent.proofs.check_line_lent.Goals as goal

pub returns : goal.returns
returns c = rw (c.update.ensures.0, c.update.ensures.1) c.check_line_tallied-a.ensures
