-- Each answer of the twin is told by its numbers.
use Rattle.scene_log.proofs.LabelText.{piece-numbers}
use Rattle.scene_log.proofs.scene_log_label_text.Goals as goal

pub overflow_sub-size : goal.overflow_sub-size
overflow_sub-size c = search piece-numbers

pub returns-in-InBook : goal.returns-in-InBook
returns-in-InBook c = search piece-numbers

pub overflow_sub-size-in-InLog : goal.overflow_sub-size-in-InLog
overflow_sub-size-in-InLog c = search piece-numbers

pub returns-in-InLog : goal.returns-in-InLog
returns-in-InLog c = search piece-numbers

pub returns-in-Err : goal.returns-in-Err
returns-in-Err c = search piece-numbers
