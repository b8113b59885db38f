use borrow.Author.Rules.{rules}
use Rattle.timeline.proofs.LastLine.{valid_lines, last_fits, last_says}
use Rattle.timeline.proofs.judge_last.Goals as goal

pub judge_from-x-requires : goal.judge_from-x-requires
judge_from-x-requires c = record { taken = search rules; valid = (search rules, search valid_lines) }

pub verdict_at-requires : goal.verdict_at-requires
verdict_at-requires c = (search valid_lines, search last_fits)

pub returns : goal.returns
returns c = search last_says
