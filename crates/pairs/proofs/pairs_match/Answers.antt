-- An area that is filled with the bytes of the record tells which bytes are right.
use borrow.Author.Rules.{rules}
use Rattle.pairs.proofs.Places.{bounds}
use Rattle.pairs.proofs.Match.{matches}
use Rattle.pairs.proofs.pairs_match.Goals as goal

pub fill_pairs-requires : goal.fill_pairs-requires
fill_pairs-requires c = let m = bounds c.args.layout in search (rules, m.0, m.1)

pub same_bytes-requires : goal.same_bytes-requires
same_bytes-requires c = let m = bounds c.args.layout in search (rules, m.0, m.1)

pub returns : goal.returns
returns c = search matches
