-- A word of another length, or with another byte, is not `full`.
use Rattle.log_check.proofs.Word.{other_size, other_first, other_second, other_third, last_byte}
use Rattle.log_check.proofs.is_full.Goals as goal

pub returns-then-word-ne4 : goal.returns-then-word-ne4
returns-then-word-ne4 c = search other_size

pub returns-then-word-ne102 : goal.returns-then-word-ne102
returns-then-word-ne102 c = search other_first

pub returns-then-word-ne117 : goal.returns-then-word-ne117
returns-then-word-ne117 c = search other_second

pub returns-then-word-ne108 : goal.returns-then-word-ne108
returns-then-word-ne108 c = search other_third

pub returns : goal.returns
returns c = search last_byte
