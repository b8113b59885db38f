-- Five stores, at the first five places.
use Rattle.answer_numbers.proofs.Numbered.{room, stored}
use borrow.Author.Rules.{rules}
use Rattle.answer_numbers.proofs.put_tally.Goals as goal

pub bounds-numbers-1 : goal.bounds-numbers-1
bounds-numbers-1 c = search (rules, room)

pub bounds-numbers-2 : goal.bounds-numbers-2
bounds-numbers-2 c = search (rules, room)

pub bounds-numbers-3 : goal.bounds-numbers-3
bounds-numbers-3 c = search (rules, room)

pub returns : goal.returns
returns c = search stored
