use Rattle.text_pieces.proofs.Writing.{wrote_byte}
use Rattle.text_pieces.proofs.put_byte.Goals as goal

pub returns : goal.returns
returns c = search wrote_byte
