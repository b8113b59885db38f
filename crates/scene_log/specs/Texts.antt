-- The calls that read and write typed rules: how many bytes are written, or the refusal. `answer_numbers` has the number of each answer.
use Rattle.std.specs.Prelude.{ℕ, ◌≡◌, List, length, take}
use Rattle.rules.specs.Rules.{rule_of}
use Rattle.typed.specs.Grammar.{read_text}
use Rattle.output.specs.Written.{left_by}
use Rattle.output.specs.declared.Written.{Written}
use Rattle.typed_grammar.specs.Met.{MetText}
use Rattle.typed_meaning.specs.Written.{WritesSaid}
use Rattle.typed_file.specs.Answer.{typed_answer, bytes_of, ReadsText}
use Rattle.rule_text.specs.Text.{text_answer, WritesText}
use Rattle.rule_text.specs.Text as Text
use Rattle.answer_numbers.specs.Numbers.{written_number}

-- the number of an answer, and the buffer
abbrev pub written_numbered : Written → List ℕ → List ℕ → ℕ × List ℕ
written_numbered a bytes before = (written_number a, left_by a bytes before)

-- the answer and the buffer, for every input; and what they mean
pub record ReadsTextNumber (text before : List ℕ) (n : ℕ) (after : List ℕ) : Type 0 where
  pub answer : ◌≡◌ {A = ℕ × List ℕ} (n, after) (written_numbered (typed_answer text (length before)) (bytes_of text (read_text text)) before)
  pub meaning : ReadsText text before (typed_answer text (length before)) after
  -- a refusal is met by the text; what is written is the rule file of what the text says
  pub refused : (c : ℕ) → typed_answer text (length before) ≡ Written.Refused c → MetText text (length before) c
  pub written : (m : ℕ) → typed_answer text (length before) ≡ Written.Length m → WritesSaid text m (take m after)

pub record WritesTextNumber (file before : List ℕ) (n : ℕ) (after : List ℕ) : Type 0 where
  pub answer : ◌≡◌ {A = ℕ × List ℕ} (n, after) (written_numbered (text_answer file (length before)) (Text.bytes_of file (rule_of file)) before)
  pub meaning : WritesText file before (text_answer file (length before)) after
