-- Where both reads brought bytes and the book is not too long, they are handed on.
use mathlib.Core.Path.{refl}
use Rattle.input.proofs.Answers.{counted}
use borrow.Author.Rules.{rules}
use Rattle.label_text.proofs.print.Goals as goal

pub show_text-requires : goal.show_text-requires
show_text-requires c = (refl, refl, search counted, search counted, search rules)

pub show_refusal-requires : goal.show_refusal-requires
show_refusal-requires c = (refl, refl, search counted, search counted, search rules)
