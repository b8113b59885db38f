-- The first label that is the one looked for.
use mathlib.Core.Path.{◌≡◌}
use Rattle.std.specs.Prelude.{position}
use Rattle.std.proofs.Common.{rules, tests}
use Rattle.std.proofs.lemmas.Iterator.{YieldsList-from_slice}
use Rattle.std.proofs.lemmas.Iterator.Search.{position_from_yields_List}
use Rattle.typed_formula.specs.Meaning.{label_text}
use Rattle.text_labels.proofs.LabelPieces.{same_as, found_number}
use Rattle.text_labels.proofs.find.Goals as goal

pub returns : goal.returns
returns c =
    let e : c.position.result ≡ position (same_as c.args.text.now (label_text c.args.text.now c.args.n)) c.args.places.now =
    position_from_yields_List (same_as c.args.text.now (label_text c.args.text.now c.args.n)) _ _ c.position.result c.position.ensures.ran (YieldsList-from_slice c.args.places.now cc) (λ x b q k. search (rules, tests)) in
    found_number _ _ _ _ _ e c.unwrap_or.ensures
