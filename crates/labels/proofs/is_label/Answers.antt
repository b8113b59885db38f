-- The length decides first, then one byte after the other.
use mathlib.Core.Path.{◌≡◌, sym, ◌∙◌}
use mathlib.Core.Bool.{true}
use lib.ListN.{length}
use Rattle.lists.proofs.Cases.{either_lt, no_both}
use borrow.Author.Rules.{rules}
use borrow.Author.Tests.{tests}
use Rattle.std.proofs.lemmas.Iterator.{cases_from_all, YieldsList-from_slice}
use Rattle.labels.proofs.Form.{Lettered, Unlettered, letters_all, form_empty, form_long, form_bytes}
use Rattle.labels.proofs.is_label.Goals as goal

pub returns-then-contains : goal.returns-then-contains
returns-then-contains c =
    let s = c.args.s.now in
    letters_all s _
    (cases_from_all c.all.new.self _ _ Lettered Unlettered c.all.ensures.ran (YieldsList-from_slice s cc) (λ x q k. search (rules, tests)) (λ x q k. search (rules, tests)))
    ∙ form_bytes s (search rules) (search rules)

pub returns-else-contains : goal.returns-else-contains
returns-else-contains c =
    let s = c.args.s.now in
    c.if-contains.false
    ∙ either_lt (length s) 1 (form_empty s)
    (λ low. either_lt 24 (length s) (form_long s)
    (λ high. let within : c.contains.result ≡ true = search (rules, tests) in no_both (sym within ∙ c.if-contains.false)))
