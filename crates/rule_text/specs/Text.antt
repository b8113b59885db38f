-- The text of a rule file's rule, and what writing it answers.
use Rattle.std.specs.Prelude.{ℕ, ◌+◌, ◌≤◌, ◌≡◌, cond, List, [], ◌∷◌, ◌++◌, ltb, length, take}
use Rattle.rules.specs.Formula as Formula
use Rattle.rules.specs.Formula.{Formula}
use Rattle.rules.specs.Labels.{LabelsOk}
use Rattle.rules.specs.Parts.{label_count}
use Rattle.rules.specs.Table.{formula_from, formula_at, Good}
use Rattle.rules.specs.Rules.{rule_of, formula_of}
use Rattle.rules.specs.declared.Node.{Node}
use Rattle.rules.specs.declared.Rule.{Rule}
use Rattle.std.specs.Prelude.{Result, Ok, Err}
use Rattle.refusals.specs.Refusal.{number}
use Rattle.refusals.specs.declared.Refusal.{Refusal}
use Rattle.grammar.specs.MetRule.{MetRule}
use Rattle.grammar.specs.Stands.{RuleFile}
use Rattle.levels.specs.declared.VarLevels.{VarLevels}
use Rattle.levels.specs.Carried.{levels_of}
use Rattle.typed_grammar.specs.Text.{letter, rule_text}
use Rattle.spelling.specs.Written.{write}
use Rattle.output.specs.Written.{left_by}
use Rattle.output.specs.declared.Written.{Written}

-- the formula of a node without children
abbrev pub atom_of : List ℕ → Node → Formula
atom_of file x = formula_from file x (λ c. Formula.pair Formula.same 0 0)

-- `A('TEST')`, `same(A,B)`, `(exist A.`
abbrev pub has_text : ℕ → List ℕ → List ℕ
has_text a l = a ∷ 40 ∷ 39 ∷ (l ++ (39 ∷ 41 ∷ []))

abbrev pub same_text : ℕ → ℕ → List ℕ
same_text a b = 115 ∷ 97 ∷ 109 ∷ 101 ∷ 40 ∷ a ∷ 44 ∷ b ∷ 41 ∷ []

-- `A < B`, with the sign's byte
abbrev pub sign_text : ℕ → ℕ → ℕ → List ℕ
sign_text c a b = a ∷ 32 ∷ c ∷ 32 ∷ b ∷ []

abbrev pub some_text : ℕ → List ℕ
some_text d = 40 ∷ 101 ∷ 120 ∷ 105 ∷ 115 ∷ 116 ∷ 32 ∷ letter d ∷ 46 ∷ []

-- what writing a node asks: a table and labels in range, and room for the text
pub record Ready (file : List ℕ) (first node d : ℕ) (levels : VarLevels) (out : List ℕ) (at : ℕ) : Type 0 where
  pub good : Good file first node
  pub labels : LabelsOk file (label_count file)
  pub deep : d + node ≤ 64
  pub room : at + length (write d (levels_of levels) (formula_at file first node) []) ≤ length out

-- "A writer gives each rule table one text"
abbrev pub text_of : List ℕ → Rule → List ℕ
text_of file x = rule_text (formula_of file x)

-- 20 before all else; then the rule's refusals
abbrev pub answer_of : List ℕ → Result Rule Refusal → Written
answer_of file (Ok x) = Written.Length (length (text_of file x))
answer_of file (Err e) = Written.Refused (number e)

abbrev pub bytes_of : List ℕ → Result Rule Refusal → List ℕ
bytes_of file (Ok x) = text_of file x
bytes_of file (Err e) = []

-- "in a buffer of at least 4,096 bytes"
abbrev pub text_room : ℕ
text_room = 4096

unfoldable pub text_answer : List ℕ → ℕ → Written
text_answer file room = cond (ltb room text_room) (Written.Refused 20) (answer_of file (rule_of file))

pub record WritesText (file before : List ℕ) (r : Written) (after : List ℕ) : Type 0 where
  pub answer : r ≡ text_answer file (length before)
  pub left : after ≡ left_by r (bytes_of file (rule_of file)) before
  -- no text is longer than its buffer
  pub few : (n : ℕ) → r ≡ Written.Length n → n ≤ text_room
  -- what is written is the text of the rule that the file is
  pub means : (n : ℕ) → r ≡ Written.Length n → (f : Formula) × RuleFile file f × (take n after ≡ rule_text f)
  -- and a file that is refused, where the buffer is long enough, meets that refusal
  pub refused : (c : ℕ) → r ≡ Written.Refused c → text_room ≤ length before → MetRule file c
