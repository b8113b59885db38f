-- A search that may stop starts with the runs up to the first moment that it is asked for; any other takes all.
use Rattle.timeline.proofs.Until.{end_few}
use borrow.Author.Rules.{rules}
use Rattle.timeline.proofs.search.first_end.Goals as goal

pub returns-then-low-count : goal.returns-then-low-count
returns-then-low-count c = search (rules, end_few)
