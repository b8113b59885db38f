use Rattle.std.proofs.Common.{rules, tests, not, ◌∙◌}
use Rattle.std.proofs.lemmas.Iterator.{YieldsList-from_slice}
use Rattle.std.proofs.lemmas.Iterator.Search.{position_from_yields_List}
use Rattle.label_book.specs.Reading.{fits?}
use Rattle.label_book.proofs.Lines.{span_found}
use Rattle.label_book.proofs.count_fitting.Goals as goal

pub returns : goal.returns
returns c =
    c.unwrap_or.ensures
    ∙ span_found (fits? c.args.text) c.args.s.now _
    (position_from_yields_List (λ x. not (fits? c.args.text x)) _ _ _ c.position.ensures.ran (YieldsList-from_slice c.args.s.now cc) (λ x b q k. search (rules, tests)))
