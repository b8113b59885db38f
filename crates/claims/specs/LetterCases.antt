-- Labels in either case: what some bytes count as, what some logs leave, and what some rules say.
use Rattle.std.specs.Prelude.{ℕ, ◌≡◌, List, [], ◌∷◌, ◌++◌}
use Rattle.lists.specs.Lists.{bytes}
use Rattle.labels.specs.Label.{capital, label_no, label_of}
use Rattle.labels.specs.Table.{first_place}
use Rattle.refusals.specs.declared.Refusal.TheVariants.{LineForm, LineLabel}
use Rattle.trace.specs.declared.Run.{Run}
use Rattle.trace.specs.Trace.{Answer, next, refused, line, read}
use Rattle.std.specs.Prelude.{Ok, Err}
use Rattle.refusals.specs.declared.Refusal.TheVariants.{RuleLabel}
use Rattle.rules.specs.Rules.{rule_of, formula_of}
use Rattle.rules.specs.Cases.{p1_file, p1_rule, no_evening_includes_test}
use Rattle.output.specs.declared.Written.TheVariants.{Length, Refused}
use Rattle.typed.specs.Grammar.{read_text}
use Rattle.typed_file.specs.Answer.{typed_answer, bytes_of}
use Rattle.rule_text.specs.Text as Text
use Rattle.rule_text.specs.Text.{text_answer}
use Rattle.report.specs.Text.{report_text}

-- a run of the label numbered 1, by its id and its lines; and a log that leaves such runs and one label
abbrev pub labelled_run : ℕ → ℕ → ℕ → Run
labelled_run i b e = record { id = i; begin = line b; end = line e; label = label_no 1 }

abbrev pub leaves_label : List Run → List ℕ → ℕ → Answer
leaves_label rs l n = next (record { runs = rs; labels = label_of l ∷ []; lines = n })

-- P1's rule file with its labels in other cases
abbrev pub p1_small : List ℕ
p1_small =
    bytes "RUL" ++ (1 ∷ 0 ∷ 2 ∷ 7 ∷ bytes "evening" ++ (4 ∷ bytes "Test" ++ (8
    ∷ 4 ∷ 0 ∷ 0
    ∷ 4 ∷ 1 ∷ 1
    ∷ 1 ∷ 0 ∷ 1
    ∷ 7 ∷ 0 ∷ 1
    ∷ 1 ∷ 2 ∷ 3
    ∷ 3 ∷ 1 ∷ 4
    ∷ 3 ∷ 0 ∷ 5
    ∷ 2 ∷ 6 ∷ 0
    ∷ [])))

-- P10's rule with a list of two labels that it does not name
abbrev pub two_labels : ℕ → ℕ → List ℕ
two_labels a b = bytes "RUL" ++ (1 ∷ 0 ∷ 2 ∷ 1 ∷ a ∷ 1 ∷ b ∷ 2 ∷ 8 ∷ 0 ∷ 0 ∷ 3 ∷ 0 ∷ 0 ∷ [])

pub record LetterCases : Type 0 where
  -- "a to z as A to Z", and no other byte: those before a and behind z, underscore, a digit, A itself
  pub counted : (capital 97 ≡ 65) × (capital 122 ≡ 90) × (capital 96 ≡ 96) × (capital 123 ≡ 123) × (capital 95 ≡ 95)
      × (capital 48 ≡ 48) × (capital 65 ≡ 65) × (capital 225 ≡ 225)
  -- "One controller writes `test`, another `TEST`": one label with one number, and the record has the capitals
  pub one_label : read (bytes "B 1 test\nE 1\nB 2 TEST\nB 3 Test\n")
      ≡ leaves_label (labelled_run 1 1 2 ∷ labelled_run 2 3 0 ∷ labelled_run 3 4 0 ∷ []) (bytes "TEST") 4
  pub others_stay : read (bytes "B 1 a_0z\n") ≡ leaves_label (labelled_run 1 1 0 ∷ []) (bytes "A_0Z") 1
  -- "13 no longer meet lower-case letters", but the bytes beside them; B and E stay as they are
  pub beside : (read (bytes "B 1 `\n") ≡ refused LineLabel) × (read (bytes "B 1 {\n") ≡ refused LineLabel)
      × (read (bytes "B 1 @\n") ≡ refused LineLabel) × (read (bytes "B 1 [\n") ≡ refused LineLabel)
  pub small_b : read (bytes "b 1 TEST\n") ≡ refused LineForm
  pub small_e : read (bytes "B 1\ne 1\n") ≡ refused LineForm
  -- P1 with its labels in other cases, in the log and in the rule file
  pub p1-log : report_text p1_file (bytes "B 7 evening\nB 9 Test\nE 9\nE 7\n")
      ≡ bytes "1 H\n2 H\n3 H\n4 F\nT 4 2 2 0 1\n"
  pub p1-rule : rule_of p1_small ≡ Ok p1_rule
  pub p1-formula : formula_of p1_small p1_rule ≡ no_evening_includes_test
  -- "5 does for two labels in a rule file's list that differ only in case"
  pub listed : rule_of (two_labels 65 97) ≡ Err RuleLabel
  pub listed_back : rule_of (two_labels 122 90) ≡ Err RuleLabel
  pub different : rule_of (two_labels 65 98) ≡ Ok (record { labels = 2; nodes = 11; count = 2 })
  -- "in a typed rule those are one label", and the rule that is written has the capitals
  pub typed-p1 : bytes_of (bytes "!exist A, B . A('evening') & B('Test') & A i B")
      (read_text (bytes "!exist A, B . A('evening') & B('Test') & A i B")) ≡ p1_file
  pub typed_one : bytes_of (bytes "exist A . A('Test') & A('TEST')")
      (read_text (bytes "exist A . A('Test') & A('TEST')"))
      ≡ bytes "RUL" ++ (1 ∷ 0 ∷ 1 ∷ 4 ∷ bytes "TEST" ++ (4 ∷ 4 ∷ 0 ∷ 0 ∷ 4 ∷ 0 ∷ 0 ∷ 1 ∷ 0 ∷ 1 ∷ 3 ∷ 0 ∷ 2 ∷ []))
  -- the words and names of a typed rule stay as they are
  pub small_word : typed_answer (bytes "Exist A . A < A") 599 ≡ Refused 25
  pub two_names : typed_answer (bytes "exist Ab . AB < AB") 599 ≡ Refused 9
  pub typed_beside : typed_answer (bytes "exist A . A('a-b')") 599 ≡ Refused 5
  -- "all rules written out keep the capital form"
  pub written : text_answer p1_small 4096 ≡ Length 53
  pub written_text : Text.bytes_of p1_small (rule_of p1_small)
      ≡ bytes "!(exist A.(exist B.((A('EVENING')&B('TEST'))&A i B)))"
  -- "The hash runs over the capitals.": EVENING has the first place 15, where the bytes `evening` would have 47
  pub hash : first_place (label_of (bytes "EVENING")) ≡ 15
  pub hash-small : first_place (label_of (bytes "evening")) ≡ 47
