use Rattle.report.proofs.ReportCall.{work_refused, verdicts_refused, text_refused, part_of_trace, part_written}
use borrow.Author.Rules.{rules}
use Rattle.report.proofs.report.Goals as goal

pub returns-then-work-end : goal.returns-then-work-end
returns-then-work-end c = search work_refused

pub returns-then-verdicts-lt-MAX_LINES : goal.returns-then-verdicts-lt-MAX_LINES
returns-then-verdicts-lt-MAX_LINES c = search verdicts_refused

pub returns-then-text-lt-REPORT_BYTES : goal.returns-then-text-lt-REPORT_BYTES
returns-then-text-lt-REPORT_BYTES c = search text_refused

pub put_record-n-requires : goal.put_record-n-requires
put_record-n-requires c = record { of_trace = search part_of_trace; max_lines_in_bounds = (search rules, search rules) }

pub returns : goal.returns
returns c = search part_written
