-- A rule that is taken is watched by from no lines on.
use Rattle.watch.proofs.Session.{rule_read, watching_printable}
use borrow.Author.Rules.{rules}
use Rattle.watch.proofs.watch_log.Goals as goal

pub start-s-requires : goal.start-s-requires
start-s-requires c = (search (rule_read, rules), search rules)

pub finish-requires : goal.finish-requires
finish-requires c = search (watching_printable, rules)
