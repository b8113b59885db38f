-- Nine bytes, appended.
use Rattle.rule_text.proofs.Spelling.{some_written}
use Rattle.rule_text.proofs.nodes.write_some.Goals as goal

pub returns : goal.returns
returns c = search some_written
