-- Where the read brought bytes the file is made of them; where it failed there is nothing to tell.
use Rattle.told.proofs.Told.{read_count}
use Rattle.rule_from_text.proofs.Made.{made_nothing, made}
use Rattle.rule_from_text.proofs.make_file.Goals as goal

pub returns-in-Err : goal.returns-in-Err
returns-in-Err c = search made_nothing

pub slice_bounds-rule_from_text-end : goal.slice_bounds-rule_from_text-end
slice_bounds-rule_from_text-end c = search read_count

pub returns-in-Ok : goal.returns-in-Ok
returns-in-Ok c = search made
