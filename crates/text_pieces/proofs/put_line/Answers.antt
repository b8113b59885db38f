use Rattle.text_pieces.proofs.Pieces.{line_written}
use Rattle.text_pieces.proofs.put_line.Goals as goal

pub returns : goal.returns
returns c = search line_written
