-- What a call that is not refused has read and written.
use Rattle.std.specs.Prelude.{ℕ, ◌≡◌, List, length}
use Rattle.grammar.specs.Stands.{RuleFile}
use Rattle.typed_grammar.specs.Grammar.{Tree, Says}
use Rattle.typed_grammar.specs.Formula.{formula_said}
use Rattle.typed_grammar.specs.File.{rule_file}

pub record WritesSaid (text : List ℕ) (n : ℕ) (file : List ℕ) : Type 0 where
  -- the text is inside the grammar, and says this
  pub tree : Tree
  pub says : Says text tree
  -- the file is that of its formula, "labels and nodes numbered as first completed, left before right"
  pub bytes : file ≡ rule_file (formula_said tree)
  -- the answer is the length of the file
  pub size : n ≡ length file
  -- the file is a rule file, and its rule is what the text says
  pub rule : RuleFile file (formula_said tree)
