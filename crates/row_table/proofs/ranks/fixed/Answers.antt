-- Each rank of the array is tested.
use mathlib.Core.Path.{◌≡◌, sym, subst}
use mathlib.Core.Bool.{Bool}
use Rattle.std.proofs.Common.{rules}
use borrow.Author.Tests.{tests}
use Rattle.std.proofs.lemmas.Iterator.{YieldsList-from_slice}
use Rattle.std.proofs.lemmas.Iterator.Search.{all_from_yields_List}
use Rattle.std.specs.List.{list_all}
use Rattle.lists.specs.Tells.{Tells}
use Rattle.row_table.specs.Truth.{Fixed}
use Rattle.row_table.specs.Ranks.{binding}
use Rattle.row_table.proofs.Marks.{unmarked, run_fixed}
use Rattle.row_table.proofs.ranks.fixed.Goals as goal

pub returns : goal.returns
returns c = let b = c.args.b in
    let e : c.all.result ≡ list_all unmarked b.run = all_from_yields_List unmarked _ _ c.all.result c.all.ensures.ran (YieldsList-from_slice b.run (cc)) (λ x y q k. search (rules, tests)) in
    subst (λ (y : Bool). Tells y (Fixed (binding b))) (sym e) (run_fixed b.run c.requires)
