-- What is counted lies within the buffer, whose length stays, and has no LF before its last byte.
use borrow.Author.Rules.{rules}
use Rattle.std.proofs.lemmas.List.{set-get_or}
use Rattle.watch.proofs.Bytes.{byte_free, byte_ends, byte_few, free_read, all_read}
use Rattle.watch.proofs.read_line.Goals as goal

pub returns-in_default : goal.returns-in_default
returns-in_default c = rw set-get_or (search (free_read, rules))

pub returns-then-b-eq10 : goal.returns-then-b-eq10
returns-then-b-eq10 c = search (byte_ends, rules)

pub loop-n-preserved : goal.loop-n-preserved
loop-n-preserved c = (search (byte_few, rules), search (byte_free, rules, c.if-b-eq10.false))

pub returns : goal.returns
returns c = search (all_read, rules)
