-- Rules typed by hand, and written out again: where the two calls refuse, what they leave, and that a text which is
-- written is read again.
use Rattle.std.specs.Prelude.{ℕ, ◌≤◌, ◌<◌, ◌≡◌, ◌↔◌, List, length, take}
use Rattle.trace.specs.Trace.{Trace, Accepted}
use Rattle.pairs.specs.declared.Layout.{Layout}
use Rattle.rules.specs.declared.Rule.{Rule}
use Rattle.std.specs.Prelude.{Ok}
use Rattle.rules.specs.Formula.{Formula}
use Rattle.rules.specs.Rules.{rule_of, formula_of}
use Rattle.grammar.specs.MetRule.{MetRule}
use Rattle.grammar.specs.Stands.{RuleFile}
use Rattle.grammar.specs.Written.{EachByte}
use Rattle.logic.specs.declared.Verdict.{Verdict}
use Rattle.logic.specs.Satisfies.{Binding, Satisfies}
use Rattle.logic.specs.Verdict.{verdict_byte, Says}
use Rattle.typed_grammar.specs.Grammar as Grammar
use Rattle.typed_grammar.specs.Grammar.{Tree}
use Rattle.typed_grammar.specs.Formula.{formula_said}
use Rattle.typed_grammar.specs.File.{rule_file}
use Rattle.typed_grammar.specs.Text.{rule_text}
use Rattle.typed_grammar.specs.Met.{MetText}
use Rattle.output.specs.declared.Written.{Written}
use Rattle.output.specs.declared.Written.TheVariants.{Length, Refused}
use Rattle.typed_file.specs.Answer.{ReadsText}
use Rattle.rule_text.specs.Text.{WritesText}
use Rattle.whole_log.specs.declared.Mode.{Mode}
use Rattle.whole_log.specs.Log.{log_of}
use Rattle.whole_log.specs.Part.{read_part}
use Rattle.report.specs.Calls.{Beyond}
use Rattle.claims.specs.Demand1.{Refuses}

-- ── one call of each kind ──
-- a rule file from a text
pub record ReadCall : Type 0 where
  pub text : List ℕ
  pub rule : List ℕ
  pub answer : Written
  pub rule' : List ℕ
  pub reads : ReadsText text rule answer rule'

-- a text from a rule file
pub record WriteCall : Type 0 where
  pub file : List ℕ
  pub text : List ℕ
  pub answer : Written
  pub text' : List ℕ
  pub writes : WritesText file text answer text'

-- where writing is refused: "in a buffer of at least 4,096 bytes"; then the rule's own refusals
pub data MetWriting (file : List ℕ) (room c : ℕ) : Type 0 where
  short_buffer : room < 4096 → c ≡ 20 → MetWriting file room c
  rule : 4096 ≤ room → MetRule file c → MetWriting file room c

-- the verdicts of a rule file are those of the formula f: of accepted lines, "holds" exactly if they satisfy it
abbrev pub JudgedBy : List ℕ → Formula → Type 0
JudgedBy file f =
    (x : Rule) → rule_of file ≡ Ok x → (log : List ℕ) (t : Trace) → Accepted log t
    → (v : Verdict) → Says t (formula_of file x) v → (ρ : Binding) → (verdict_byte v ≡ 1) ↔ Satisfies t ρ f

-- a text that is read into n bytes
pub record Reading (k : ReadCall) (n : ℕ) : Type 0 where
  -- it is inside the grammar and says a tree
  pub tree : Tree
  pub says : Grammar.Says k.text tree
  -- "the reader writes a rule file, labels and nodes numbered as first completed, left before right"
  pub file : take n k.rule' ≡ rule_file (formula_said tree)
  pub size : n ≡ length (rule_file (formula_said tree))
  -- "The longest file has 599 bytes"
  pub fits : n ≤ 599
  pub rule : RuleFile (take n k.rule') (formula_said tree)
  pub verdicts : JudgedBy (take n k.rule') (formula_said tree)
  -- "no call changes a byte past those it is stated to write"
  pub rest : Beyond n k.rule k.rule'

-- a text of n bytes, read again: "Reading that text yields a rule of equal verdict on every log, and writing it again
-- yields the same text"
pub record Again (f : Formula) (text : List ℕ) (j : ReadCall) : Type 0 where
  pub size : ℕ
  pub taken : j.answer ≡ Length size
  pub read : Reading j size
  pub verdict : (t : Trace) (ρ : Binding) → Satisfies t ρ (formula_said read.tree) ↔ Satisfies t ρ f
  -- so the verdicts of the file that is read are those of the rule that was written
  pub verdicts : JudgedBy (take size j.rule') f
  pub text_again : rule_text (formula_said read.tree) ≡ text
  -- and every call that writes that file out again writes this text
  pub written_again : (w : WriteCall) → w.file ≡ take size j.rule' → 4096 ≤ length w.text
      → (w.answer ≡ Length (length text)) × (take (length text) w.text' ≡ text)

-- a rule file that is written out in n bytes
pub record Writing (k : WriteCall) (n : ℕ) : Type 0 where
  pub formula : Formula
  pub rule : RuleFile k.file formula
  pub text : take n k.text' ≡ rule_text formula
  -- "without `|`"
  pub no_bar : EachByte (λ b. b ≡ 124 → ⊥) (take n k.text')
  pub fits : n ≤ 4096
  pub rest : Beyond n k.text k.text'
  pub again : (j : ReadCall) → j.text ≡ take n k.text' → 599 ≤ length j.rule
      → Again formula (take n k.text') j
  -- "a rule of equal verdict on every log": with both files the whole-log call answers and leaves the same
  pub same_checks : (j : ReadCall) (m : ℕ) → j.text ≡ take n k.text' → j.answer ≡ Length m
      → (lay : Layout) (log w out : List ℕ) → log_of lay (take m j.rule') log w out ≡ log_of lay k.file log w out
  -- and in each mode it reads the same part
  pub same_parts : (j : ReadCall) (m : ℕ) → j.text ≡ take n k.text' → j.answer ≡ Length m
      → (mode : Mode) (log : List ℕ) → read_part mode (take m j.rule') log ≡ read_part mode k.file log

pub record TypedRules : Type 0 where
  -- where each call is refused, and that it then leaves its buffer as it was
  pub reading_refused : (k : ReadCall) (c : ℕ)
      → Refuses c (k.answer ≡ Refused c) (MetText k.text (length k.rule) c) (k.rule' ≡ k.rule)
  pub writing_refused : (k : WriteCall) (c : ℕ)
      → Refuses c (k.answer ≡ Refused c) (MetWriting k.file (length k.text) c) (k.text' ≡ k.text)
  -- what each leaves otherwise
  pub reading : (k : ReadCall) (n : ℕ) → k.answer ≡ Length n → Reading k n
  pub writing : (k : WriteCall) (n : ℕ) → k.answer ≡ Length n → Writing k n
  -- a text says one thing
  pub one : (text : List ℕ) (t u : Tree) → Grammar.Says text t → Grammar.Says text u → t ≡ u
