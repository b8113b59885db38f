use Rattle.label_book.proofs.Inside.{insides}
use Rattle.label_book.proofs.bytes_at.Goals as goal

pub returns-then-log-place : goal.returns-then-log-place
returns-then-log-place c = search insides

pub returns-then-log-place-2 : goal.returns-then-log-place-2
returns-then-log-place-2 c = search insides

pub returns : goal.returns
returns c = search insides
