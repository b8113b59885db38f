-- A new table has nothing, so that a row has what it gained.
use Rattle.rank_tables.proofs.Tables.{numbered_law}
use Rattle.rank_tables.proofs.numbered.Goals as goal

pub returns : goal.returns
returns c = let d = c.gain_values.ensures in
    let values = c.args.values.now in
    (d.long, λ v j l h. numbered_law values _ 130 d v j h)
