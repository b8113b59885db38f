-- What reading a typed rule answers, and the buffer that it leaves.
use Rattle.std.specs.Prelude.{ℕ, ◌≤◌, ◌≡◌, cond, List, [], ltb, length, take, Result, Ok, Err}
use Rattle.std.proofs.Math.Option.{Option, none, some}
use Rattle.rules.specs.Limits.{max_file_bytes}
use Rattle.rules.specs.Rules.{Taken, formula_of}
use Rattle.rules.specs.declared.Rule.{Rule}
use Rattle.atoms.specs.Tree.{Tree, size}
use Rattle.typed.specs.Grammar.{read_text}
use Rattle.typed_formula.specs.Meaning.{formula_for}
use Rattle.typed_checks.specs.Said.{judged}
use Rattle.refusals.specs.Refusal.{number}
use Rattle.refusals.specs.declared.Refusal.{Refusal}
use Rattle.typed_file.specs.File.{file_of}
use Rattle.output.specs.Written.{left_by}
use Rattle.output.specs.declared.Written.{Written}

-- a file of n bytes, where nothing refuses it
abbrev pub or_refused : Result ℕ Refusal → ℕ → Written
or_refused (Ok m) n = Written.Length n
or_refused (Err e) n = Written.Refused (number e)

-- "Answers: 25 for text outside the grammar"; "4, 5, 9 and 10 carry over, met in that order after the grammar"
abbrev pub answer_of : List ℕ → Option Tree → Written
answer_of text none = Written.Refused 25
answer_of text (some t) = or_refused (judged (size t) (formula_for text [] t)) (length (file_of text t))

abbrev pub bytes_of : List ℕ → Option Tree → List ℕ
bytes_of text none = []
bytes_of text (some t) = file_of text t

-- 20 before all else: "a buffer lent for writing one has at least that many"
unfoldable pub typed_answer : List ℕ → ℕ → Written
typed_answer text room = cond (ltb room max_file_bytes) (Written.Refused 20) (answer_of text (read_text text))

-- the file that was written: what it holds is a rule, and its formula is what the text says
pub record WritesRule (text : List ℕ) (n : ℕ) (after : List ℕ) : Type 0 where
  pub tree : Tree
  pub reads : read_text text ≡ some tree
  pub bytes : take n after ≡ file_of text tree
  pub rule : Rule
  pub taken : Taken (file_of text tree) rule
  pub formula : formula_of (file_of text tree) rule ≡ formula_for text [] tree

pub record ReadsText (text before : List ℕ) (r : Written) (after : List ℕ) : Type 0 where
  pub answer : r ≡ typed_answer text (length before)
  pub left : after ≡ left_by r (bytes_of text (read_text text)) before
  pub written : (n : ℕ) → r ≡ Written.Length n → WritesRule text n after
  pub few : (n : ℕ) → r ≡ Written.Length n → n ≤ max_file_bytes
