use Rattle.text_pieces.proofs.Pieces.{number_one, number_two, number-three}
use Rattle.text_pieces.proofs.put_number.Goals as goal

pub returns-then-n-lt10 : goal.returns-then-n-lt10
returns-then-n-lt10 c = search number_one

pub returns-then-n-lt100 : goal.returns-then-n-lt100
returns-then-n-lt100 c = search number_two

pub returns : goal.returns
returns c = search number-three
