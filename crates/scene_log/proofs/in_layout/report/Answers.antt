-- The buffers are those that the report leaves, and the answer is the number of what it answers.
use Rattle.scene_log.proofs.Numbered.{reports_part}
use Rattle.scene_log.proofs.in_layout.report.Goals as goal

pub returns : goal.returns
returns c = search reports_part
