-- The buffers are those that the whole-log call leaves, and the answer is the number of what it answers.
use Rattle.scene_log.proofs.Numbered.{checks_part}
use Rattle.scene_log.proofs.in_layout.check_log.Goals as goal

pub returns : goal.returns
returns c = search checks_part
