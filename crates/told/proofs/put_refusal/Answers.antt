-- The letter, the digits and LF, one behind the other.
use Rattle.told.proofs.Told.{refusal_written}
use Rattle.told.proofs.put_refusal.Goals as goal

pub returns : goal.returns
returns c = search refusal_written
