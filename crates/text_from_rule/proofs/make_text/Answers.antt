-- Where the read brought bytes the text is made of them; where it failed there is nothing to tell.
use Rattle.told.proofs.Told.{read_count}
use Rattle.text_from_rule.proofs.Made.{made_nothing, made}
use Rattle.text_from_rule.proofs.make_text.Goals as goal

pub returns-in-Err : goal.returns-in-Err
returns-in-Err c = search made_nothing

pub slice_bounds-text_from_rule-end : goal.slice_bounds-text_from_rule-end
slice_bounds-text_from_rule-end c = search read_count

pub returns-in-Ok : goal.returns-in-Ok
returns-in-Ok c = search made
