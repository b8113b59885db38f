use Rattle.tallies.proofs.Tallies.{count_refused, count_holds, count_fails}
use Rattle.tallies.proofs.counts.count_line.Goals as goal

-- src/counts.rt:78:13
pub returns-in-Refused : goal.returns-in-Refused
returns-in-Refused c = search count_refused

-- src/counts.rt:86:13
pub returns-in-Holds : goal.returns-in-Holds
returns-in-Holds c = search count_holds

-- src/counts.rt:94:13
pub returns-in-Fails : goal.returns-in-Fails
returns-in-Fails c = search count_fails
