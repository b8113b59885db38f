-- The buffer is that which reading leaves, and the answer is the number of what it answers.
use Rattle.scene_log.proofs.Texts.{rule_fits, reads_text}
use Rattle.scene_log.proofs.scene_log_rule_from_text.Goals as goal

pub written_number-requires : goal.written_number-requires
written_number-requires c = search rule_fits

pub returns : goal.returns
returns c = search reads_text
