-- The first three bytes are the mark, or they are not.
use mathlib.Core.Path.{sym, ◌∙◌}
use Rattle.rules.proofs.Parts.{mark_short, marked, unmarked}
use Rattle.rules.proofs.front.mark.Goals as goal

pub returns-then-file-lt3 : goal.returns-then-file-lt3
returns-then-file-lt3 c = search mark_short

pub returns-then-not-starts_with : goal.returns-then-not-starts_with
returns-then-not-starts_with c = unmarked _ c.if-file-lt3.false (sym c.starts_with.ensures.value ∙ c.if-not-starts_with.true)

pub returns : goal.returns
returns c = marked _ c.if-file-lt3.false (sym c.starts_with.ensures.value ∙ c.if-not-starts_with.false)
