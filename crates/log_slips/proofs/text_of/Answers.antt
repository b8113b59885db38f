-- Where both reads brought bytes the text is made of them; where one failed there is none.
use Rattle.log_slips.proofs.Read.{bytes_counted, rule_unread, log_unread, both_read}
use Rattle.log_slips.proofs.text_of.Goals as goal

pub returns-in-Err : goal.returns-in-Err
returns-in-Err c = search rule_unread

pub returns-in-Err-l : goal.returns-in-Err-l
returns-in-Err-l c = search log_unread

pub slice_bounds-make_text-end : goal.slice_bounds-make_text-end
slice_bounds-make_text-end c = search bytes_counted

pub slice_bounds-make_text-end-in-Ok-l : goal.slice_bounds-make_text-end-in-Ok-l
slice_bounds-make_text-end-in-Ok-l c = search bytes_counted

pub returns-in-Ok-l : goal.returns-in-Ok-l
returns-in-Ok-l c = search both_read
