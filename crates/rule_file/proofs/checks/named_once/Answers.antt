-- Each node but the last is tested in turn.
use Rattle.std.proofs.Common.{ℕ, ◌-◌, Bool, eqb, rules, tests, sym, ◌∙◌}
use Rattle.std.proofs.lemmas.Iterator.{YieldsList-from_range}
use Rattle.std.proofs.lemmas.Iterator.Search.{all_from_yields_List}
use Rattle.rules.specs.Checks.{times_named}
use Rattle.rule_file.proofs.WholeTable.{once_all}
use Rattle.rule_file.proofs.checks.named_once.Goals as goal

pub returns : goal.returns
returns c =
    let once : ℕ → Bool = λ m. eqb (times_named c.args.file.now c.args.first c.args.count m) 1 in
    all_from_yields_List once _ _ _ c.all.ensures.ran
    (YieldsList-from_range 0 (c.args.count - 1) (c.args.count - 1) (search rules) (search rules))
    (λ x b q k. search (rules, tests))
    ∙ sym (once_all c.args.file.now c.args.first c.args.count (c.args.count - 1))
