-- The whole is read where none fails; where the last line that is taken fails, what is left is that of the whole.
use Rattle.whole_log.proofs.Failing.{first_all, first_last, first_again}
use Rattle.whole_log.proofs.EndOf.{end_cuts}
use Rattle.whole_log.proofs.stop.first_read.Goals as goal

pub returns-then-n-eq0 : goal.returns-then-n-eq0
returns-then-n-eq0 c = search first_all

pub returns-then-n-state : goal.returns-then-n-state
returns-then-n-state c = search first_last

pub slice_bounds-read_runs-end : goal.slice_bounds-read_runs-end
slice_bounds-read_runs-end c = search end_cuts

pub returns : goal.returns
returns c = search first_again
