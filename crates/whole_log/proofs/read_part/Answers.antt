use Rattle.whole_log.proofs.Part.{full_lines, failing_lines}
use Rattle.whole_log.proofs.read_part.Goals as goal

pub returns-in-Full : goal.returns-in-Full
returns-in-Full c = search full_lines

pub returns-in-FirstFailure : goal.returns-in-FirstFailure
returns-in-FirstFailure c = search failing_lines
