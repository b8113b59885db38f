-- Past the table there is no run.
use mathlib.Core.Path.{◌≡◌, sym, ap}
use native.Mathlib.Omega.{arith}
use lib.ListN.{length, get_or-eq_default}
use Rattle.lists.proofs.Lists.{unmapped}
use Rattle.trace.specs.Trace.{no_run}
use Rattle.relations.specs.Runs.{span_of}
use Rattle.relations.proofs.span_of.Goals as goal

pub returns : goal.returns
returns c = let a = c.args in
    let e : length a.t.list ≡ 128 = search unmapped in
    ap span_of (sym (get_or-eq_default a.t.list no_run (omega arith)))
