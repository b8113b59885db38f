-- The arm says which part of `letter?` decides.
use borrow.Author.Rules.{rules}
use Rattle.labels.proofs.Letters.{letters}
use Rattle.labels.proofs.label_byte.Goals as goal

pub returns-in_default : goal.returns-in_default
returns-in_default c = search (rules, letters)

pub returns-in_default-2 : goal.returns-in_default-2
returns-in_default-2 c = search (rules, letters)

pub returns-in_default-3 : goal.returns-in_default-3
returns-in_default-3 c = search (rules, letters)

pub returns-in-65-to-90 : goal.returns-in-65-to-90
returns-in-65-to-90 c = search (rules, letters)

pub returns-in-65-to-90-2 : goal.returns-in-65-to-90-2
returns-in-65-to-90-2 c = search (rules, letters)

pub returns-in-65-to-90-3 : goal.returns-in-65-to-90-3
returns-in-65-to-90-3 c = search (rules, letters)
