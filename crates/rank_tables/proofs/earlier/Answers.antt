-- Some row before line l gained the rank exactly if its value is below l.
use mathlib.Core.Path.{◌∙◌}
use Rattle.rank_tables.proofs.Tables.{earlier_law}
use Rattle.rank_tables.proofs.earlier.Goals as goal

pub returns : goal.returns
returns c = let d = c.gain_values.ensures in
    let s = c.spread.ensures in
    (s.long ∙ d.long, earlier_law c.args.values.now _ _ 516 d s)
