-- Each number is composed as a byte: one above 63 is no set, and neither is its byte.
use Rattle.answer_numbers.proofs.Numbered.{numbered_same}
use Rattle.scene_log.proofs.Numbered.{composes}
use Rattle.scene_log.proofs.scene_log_compose.Goals as goal

pub returns : goal.returns
returns c = let told = numbered_same _ _ c.answer_number.ensures in
    search composes
