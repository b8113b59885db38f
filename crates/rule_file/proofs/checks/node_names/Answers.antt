-- By the kind, the fields that are children.
use Rattle.std.proofs.Common.{arith, ◌≡◌}
use Rattle.rule_file.proofs.WholeTable.{names_and, names_not, names_some, names_none}
use borrow.Author.Rules.{rules}
use Rattle.rule_file.proofs.checks.node_names.Goals as goal

pub returns-in-1 : goal.returns-in-1
returns-in-1 c = (search names_and, search rules)

pub returns-in-2 : goal.returns-in-2
returns-in-2 c = (search names_not, search rules)

pub returns-in-3 : goal.returns-in-3
returns-in-3 c = (search names_some, search rules)

pub returns-in_default : goal.returns-in_default
returns-in_default c =
    let n1 : c.args.x.kind ≡ 1 → ⊥ = omega (arith, c.in_default) in
    let n2 : c.args.x.kind ≡ 2 → ⊥ = omega (arith, c.in_default) in
    let n3 : c.args.x.kind ≡ 3 → ⊥ = omega (arith, c.in_default) in
    (names_none _ _ n1 n2 n3, search rules)
