-- The number names a layout, and the call is that in the layout; or it names none, and nothing is touched.
use mathlib.Core.Path.{refl}
use Rattle.answer_numbers.proofs.Numbered.{by_layout, no_layout}
use borrow.Author.Rules.{rules}
use Rattle.scene_log.proofs.scene_log_check_log.Goals as goal

pub returns-then-layout-gt-LAST_LAYOUT : goal.returns-then-layout-gt-LAST_LAYOUT
returns-then-layout-gt-LAST_LAYOUT c = no_layout _ _ _ (search rules) refl

pub returns : goal.returns
returns c = search (by_layout, rules)
