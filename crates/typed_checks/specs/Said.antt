-- How the code works, not what it means.
-- The refusals behind the grammar, said of the formula that a text says.
use Rattle.std.specs.Prelude.{ℕ, cond, ltb, length, Result, Ok, Err}
use Rattle.refusals.specs.declared.Refusal.{Refusal}
use Rattle.refusals.specs.declared.Refusal.TheVariants.{RuleCount, RuleLabel, RuleUnbound, RuleTooDeep}
use Rattle.rules.specs.Limits.{max_labels, max_nodes, max_nested}
use Rattle.rules.specs.Formula.{Formula, no_scope, scoped, shallow}
use Rattle.typed_grammar.specs.File.{labels_of}
use Rattle.text_labels.specs.Pieces.{good_labels?}

-- A formula of n nodes. 4: more than 64 nodes or 16 labels; 5: a label of wrong length or byte; 9: an unbound name; 10: five nested names.
unfoldable pub judged : ℕ → Formula → Result ℕ Refusal
judged n f =
    cond (ltb max_nodes n) (Err RuleCount)
    (cond (ltb max_labels (length (labels_of f))) (Err RuleCount)
    (cond (good_labels? (labels_of f))
    (cond (scoped f no_scope)
    (cond (shallow max_nested f) (Ok (length (labels_of f))) (Err RuleTooDeep))
    (Err RuleUnbound))
    (Err RuleLabel)))
