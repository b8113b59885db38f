-- The bytes of all pairs, stored into cleared bytes, are the pair bytes of the record, in whichever order they are stored.
use Rattle.pairs.proofs.Filled.{filled_rows, filled_columns}
use Rattle.pairs.proofs.fill_pairs.Goals as goal

pub returns-in-Square : goal.returns-in-Square
returns-in-Square c = search filled_rows

pub returns-in-Half : goal.returns-in-Half
returns-in-Half c = search filled_columns
