-- Each label decides.
use mathlib.Core.Path.{sym, ◌∙◌}
use Rattle.std.proofs.Common.{rules, tests}
use Rattle.std.proofs.lemmas.Iterator.{YieldsList-from_slice}
use Rattle.std.proofs.lemmas.Iterator.Search.{all_from_yields_List}
use Rattle.text_labels.proofs.LabelPieces.{label_good, all_good}
use Rattle.text_labels.proofs.labels_ok.Goals as goal

pub returns : goal.returns
returns c =
    all_from_yields_List (label_good c.args.text.now) _ _ c.all.result c.all.ensures.ran (YieldsList-from_slice c.args.places.now cc) (λ x b q k. search (rules, tests))
    ∙ sym (all_good c.args.text.now c.args.places.now)
