-- What is counted of the rule file lies within its buffer.
use Rattle.input.proofs.Answers.{counted}
use Rattle.watch.proofs.main.Goals as goal

pub slice_bounds-rule-end : goal.slice_bounds-rule-end
slice_bounds-rule-end c = (counted _ _ _ c.in-Ok.is c.read_rule-a.ensures).0

pub slice_bounds-watch_log-end : goal.slice_bounds-watch_log-end
slice_bounds-watch_log-end c = (counted _ _ _ c.in-Ok.is c.read_rule-a.ensures).1
