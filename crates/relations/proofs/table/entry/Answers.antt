-- The table's rule is one test over all of its entries, which antt computes. Local 2 of the function is the table.
use mathlib.Core.Path.{refl}
use borrow.Author.Rules.{rules}
use Rattle.relations.specs.Compose.{compose_of}
use Rattle.relations.proofs.Computed.{entry_right}
use Rattle.relations.proofs.table.entry.Reads as reads
use Rattle.relations.proofs.table.entry.Lts as lts
use Rattle.relations.proofs.table.entry.Goals as goal

pub returns : goal.returns
unfolding compose_of
returns c = entry_right ((lts.m4 reads.Pre reads.Post c.before.before c.result-1.given).1.1.0.now) c.args.at tt refl (search rules)
