-- By what is found.
use Rattle.log_slips.proofs.Runs.{first_written, nothing_written, refused_written}
use borrow.Author.Rules.{rules}
use Rattle.log_slips.proofs.put_found.Goals as goal

pub returns-in-Ok-Some : goal.returns-in-Ok-Some
returns-in-Ok-Some c = search (first_written, rules)

pub returns-in-Ok-None : goal.returns-in-Ok-None
returns-in-Ok-None c = search (nothing_written, rules)

pub returns-in-Err : goal.returns-in-Err
returns-in-Err c = search (refused_written, rules)
