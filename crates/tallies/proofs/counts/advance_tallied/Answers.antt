use Rattle.single.proofs.Advanced.{advanced_few}
use Rattle.tallies.proofs.TallyCall.{standing_runs, failing-few, advances_uncounted, advances_counted}
use Rattle.tallies.proofs.counts.advance_tallied.Goals as goal

-- src/counts.rt:124:9
pub counts_match-requires : goal.counts_match-requires
counts_match-requires c = search standing_runs

-- src/counts.rt:125:9
pub returns-then-not-counts_match : goal.returns-then-not-counts_match
returns-then-not-counts_match c = search advances_uncounted

-- src/counts.rt:128:5
pub count_line-requires : goal.count_line-requires
count_line-requires c = (search advanced_few, search failing-few)

-- src/counts.rt:119:1
pub returns : goal.returns
returns c = search advances_counted
