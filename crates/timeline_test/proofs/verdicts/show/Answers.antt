-- A file that is read as a rule is taken.
use Rattle.timeline_test.proofs.verdicts.show.Goals as goal

pub show_rule-requires : goal.show_rule-requires
show_rule-requires c = c.read_rule-r.ensures.taken _ c.in-Ok.is
