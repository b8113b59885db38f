-- In the text, or behind its end.
use mathlib.Core.Path.{sym}
use Rattle.text_labels.proofs.LabelPieces.{byte_inside, byte_behind}
use Rattle.text_labels.proofs.capital_or_quote.Goals as goal

pub returns-then-p-text : goal.returns-then-p-text
returns-then-p-text c = search byte_inside

pub returns : goal.returns
returns c = sym (search byte_behind)
