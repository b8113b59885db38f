use Rattle.single.proofs.Advanced.{taken_valid, advances_refused, advances_taken}
use borrow.Author.Rules.{rules}
use Rattle.single.proofs.step.advance.Goals as goal

pub returns-in-Err : goal.returns-in-Err
returns-in-Err c = search advances_refused

pub judge_last-v-requires : goal.judge_last-v-requires
judge_last-v-requires c = record { taken = search rules; valid = search taken_valid }

pub returns-in-Ok : goal.returns-in-Ok
returns-in-Ok c = search advances_taken
