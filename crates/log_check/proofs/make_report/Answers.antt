-- All three buffers are long enough, so the report is not refused, and its text stands at the start of the buffer.
use Rattle.log_check.proofs.Report.{prints, not_refused}
use Rattle.log_check.proofs.make_report.Goals as goal

pub returns-in-Length : goal.returns-in-Length
returns-in-Length c = search prints

pub returns-in-Refused : goal.returns-in-Refused
returns-in-Refused c = search not_refused
