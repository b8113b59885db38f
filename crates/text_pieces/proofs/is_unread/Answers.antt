use Rattle.text_pieces.proofs.Pieces.{unread_refused}
use Rattle.text_pieces.proofs.is_unread.Goals as goal

pub returns-in-Refused : goal.returns-in-Refused
returns-in-Refused c = search unread_refused
