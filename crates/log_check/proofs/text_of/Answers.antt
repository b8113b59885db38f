-- Where both reads brought bytes the report is made of them; where one failed there is no text.
use Rattle.log_check.proofs.Read.{rule_unread, log_unread, both_read}
use Rattle.log_check.proofs.text_of.Goals as goal

pub returns-in-Err : goal.returns-in-Err
returns-in-Err c = rule_unread _ _ _ _ _ c.args.text.now _ c.in-Err.is

pub returns-in-Err-l : goal.returns-in-Err-l
returns-in-Err-l c = log_unread _ _ _ _ _ c.args.text.now _ c.in-Err-l.is

pub returns-in-Ok-l : goal.returns-in-Ok-l
returns-in-Ok-l c = both_read _ _ _ _ _ _ _ _ _ c.in-Ok.is c.in-Ok-l.is _ c.mode_of-mode.ensures c.make_report.ensures
