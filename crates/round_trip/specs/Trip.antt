-- A rule file's rule, written as text and read again. "Reading that text yields a rule of equal verdict on every log, and writing it
-- again yields the same text."
use Rattle.std.specs.Prelude.{ℕ, ◌≤◌, ◌≡◌, ◌↔◌, length}
use Rattle.trace.specs.Trace.{Trace}
use Rattle.rules.specs.Limits.{max_file_bytes}
use Rattle.rules.specs.Formula.{Formula}
use Rattle.levels.specs.Levels.{by_level}
use Rattle.grammar.specs.Written.{EachByte}
use Rattle.typed_grammar.specs.Grammar.{Tree, Says}
use Rattle.typed_grammar.specs.Formula.{formula_said}
use Rattle.typed_grammar.specs.File.{rule_file}
use Rattle.typed_grammar.specs.Text.{rule_text}
use Rattle.logic.specs.Satisfies.{Binding, Satisfies}
use Rattle.output.specs.declared.Written.TheVariants as Written
use Rattle.typed_file.specs.Answer.{typed_answer}

pub record ReadAgain (f : Formula) : Type 0 where
  -- "one text without `|`"
  pub no_bar : EachByte (λ b. b ≡ 124 → ⊥) (rule_text f)
  -- the text is inside the grammar, and says the formula with each variable the level of its "some"
  pub tree : Tree
  pub says : Says (rule_text f) tree
  pub formula : formula_said tree ≡ by_level f
  -- it meets no refusal
  pub read : (room : ℕ) → max_file_bytes ≤ room → typed_answer (rule_text f) room ≡ Written.Length (length (rule_file (formula_said tree)))
  -- "a rule of equal verdict on every log"
  pub verdict : (t : Trace) (ρ : Binding) → Satisfies t ρ (formula_said tree) ↔ Satisfies t ρ f
  -- "writing it again yields the same text"
  pub again : rule_text (formula_said tree) ≡ rule_text f
