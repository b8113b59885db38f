use Rattle.tallies.proofs.Tallies.{counts_same, counts_differ}
use Rattle.tallies.proofs.counts.counts_match.Goals as goal

pub returns-then-eq : goal.returns-then-eq
returns-then-eq c = counts_same _ _ _ c.tally_of.ensures _ c.eq.ensures c.if-eq.true

pub returns-else-eq : goal.returns-else-eq
returns-else-eq c = counts_differ _ _ _ c.tally_of.ensures _ c.eq.ensures c.if-eq.false
