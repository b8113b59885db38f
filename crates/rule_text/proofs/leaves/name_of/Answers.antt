-- The letter of the level.
use mathlib.Core.Path.{ap, ◌∙◌}
use Rattle.typed_grammar.specs.Text.{letter}
use Rattle.rule_text.proofs.leaves.name_of.Goals as goal

pub returns : goal.returns
returns c = c.letter_of.ensures ∙ ap letter c.level_of.ensures
