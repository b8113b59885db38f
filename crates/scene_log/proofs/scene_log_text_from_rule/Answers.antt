-- The buffer is that which writing leaves, and the answer is the number of what it answers.
use Rattle.scene_log.proofs.Texts.{text_fits, writes_text}
use Rattle.scene_log.proofs.scene_log_text_from_rule.Goals as goal

pub written_number-requires : goal.written_number-requires
written_number-requires c = search text_fits

pub returns : goal.returns
returns c = search writes_text
