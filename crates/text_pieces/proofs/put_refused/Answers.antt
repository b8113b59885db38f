use Rattle.text_pieces.proofs.Pieces.{refused_written}
use Rattle.text_pieces.proofs.put_refused.Goals as goal

pub returns : goal.returns
returns c = search refused_written
