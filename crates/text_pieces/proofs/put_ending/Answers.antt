use Rattle.text_pieces.proofs.Pieces.{line_low, ending_read, ending_refused}
use borrow.Author.Rules.{rules}
use Rattle.text_pieces.proofs.put_ending.Goals as goal

pub returns-in-Read : goal.returns-in-Read
returns-in-Read c = search ending_read

pub put_refused-requires : goal.put_refused-requires
put_refused-requires c = (search rules, search line_low, search rules)

pub returns-in-Refused : goal.returns-in-Refused
returns-in-Refused c = search ending_refused
