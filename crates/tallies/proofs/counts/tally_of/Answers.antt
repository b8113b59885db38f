use mathlib.Core.Path.{◌≡◌}
use lib.ListN.{length}
use Rattle.lists.proofs.Lists.{unmapped}
use Rattle.tallies.proofs.Tallies.{finished_table, counts_record}
use Rattle.tallies.proofs.counts.tally_of.Goals as goal

-- src/counts.rt:43:18
pub overflow_sub-result : goal.overflow_sub-result
overflow_sub-result c = let a = c.args in
    let e : length a.r.runs.list ≡ 128 = search unmapped in
    search finished_table

-- src/counts.rt:32:1
pub returns : goal.returns
returns c = search counts_record
