-- With line 1 no run is finished. Otherwise every line before the first that fails by the timeline holds, so that the timeline is right
-- about all of them and about that line.
use Rattle.timeline.proofs.LastLine.{valid_lines}
use Rattle.timeline.proofs.FirstLine.{no_lines, first_fails, finds-failing}
use Rattle.timeline.proofs.first_failing.Goals as goal

pub returns-then-lines-eq0 : goal.returns-then-lines-eq0
returns-then-lines-eq0 c = search no_lines

pub returns-then-not-holds_of_none : goal.returns-then-not-holds_of_none
returns-then-not-holds_of_none c = first_fails c.args.file.now c.args.rule c.requires.taken c.args.r c.if-lines-eq0.false _ c.holds_of_none.ensures c.if-not-holds_of_none.true-raw

pub first_fails-requires : goal.first_fails-requires
first_fails-requires c = record { fits_runs = c.judge_from-x.ensures.fits; lines_le_max_lines = search valid_lines }

pub returns : goal.returns
returns c = search finds-failing
