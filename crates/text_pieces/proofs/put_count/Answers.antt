use Rattle.text_pieces.proofs.Pieces.{count_written}
use Rattle.text_pieces.proofs.put_count.Goals as goal

pub returns : goal.returns
returns c = search count_written
