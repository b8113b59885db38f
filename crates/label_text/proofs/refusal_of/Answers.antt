-- A refusal keeps its number, and of any other piece there is nothing to tell.
use Rattle.label_text.proofs.Shown.{refusal_kept, nothing_refused}
use Rattle.label_text.proofs.refusal_of.Goals as goal

pub returns-in-Err : goal.returns-in-Err
returns-in-Err c = search refusal_kept

pub returns-in-Ok : goal.returns-in-Ok
returns-in-Ok c = search nothing_refused
