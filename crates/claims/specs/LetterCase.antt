-- Labels in either case: "One controller writes `test`, another `TEST`. Looking up a label must treat a to z as A to Z,
-- in logs, rule files and typed rules, and the record and all rules written out keep the capital form." What a byte
-- counts as; that labels are one label exactly if their capitals are the same; that a record and a rule hold capitals
-- only; and that writing labels in another case changes no answer of any call and nothing that it leaves.
use Rattle.std.specs.Prelude.{ℕ, suc, ◌%◌, ◌≤◌, ◌<◌, ◌≡◌, ◌≢◌, ◌↔◌, List, [], length, get_or, take}
use Rattle.labels.specs.Label.{capital, CountsAs, capitals, text, no_label}
use Rattle.labels.specs.Fnv.{fnv_of}
use Rattle.labels.specs.Table.{label_at, label_places, first_place}
use Rattle.lines.specs.Log.{lines_of}
use Rattle.trace.specs.declared.Record.{Record}
use Rattle.trace.specs.Trace.{Trace, run_at, begin_line, Accepted}
use Rattle.trace.specs.Record.{Valid}
use Rattle.pairs.specs.Layout.{work_size}
use Rattle.rules.specs.Formula.{Formula, both, neg, exists, has, pair}
use Rattle.grammar.specs.Written.{LabelByte, IsLabel}
use Rattle.grammar.specs.Forms.{Begins}
use Rattle.grammar.specs.MetRule.{MetRule}
use Rattle.grammar.specs.Stands.{RuleFile}
use Rattle.logic.specs.Satisfies.{HasLabel, SameLabel}
use Rattle.single.specs.Line.{refusing}
use Rattle.slip_form.specs.declared.Slip.{Slip}
use Rattle.slips.specs.Answers.{Finding, Passing, FindsFirst, ReadsSlip}
use Rattle.report.specs.Calls.{LineCall, TalliedCall, LogCall, ReportCall}
use Rattle.output.specs.declared.Written.TheVariants.{Length}
use Rattle.letter_case.specs.Recased.{InLabel, InQuotes, RecasedLog, RecasedRule, RecasedText}
use Rattle.claims.specs.WhereMet.{Ruled}
use Rattle.claims.specs.Modes.{SameLeft, SameLeftReport}
use Rattle.claims.specs.Typed.{ReadCall, WriteCall}

-- ── one label, in any case ──
-- run k begins with a line of the log in which its label is written s; no bytes where it has none
pub record WrittenAt (log : List ℕ) (t : Trace) (k : ℕ) (s : List ℕ) : Type 0 where
  pub begun : k < length t.runs
  pub line : ℕ
  pub within : line < length (lines_of log)
  pub begins_there : begin_line (run_at t k) ≡ suc line
  pub id : ℕ
  pub label : List ℕ
  pub says : Begins (get_or (lines_of log) line []) id label
  pub written : says.written ≡ s

-- what holds of each label that a formula names
abbrev pub EachLabel : (List ℕ → Type 0) → Formula → Type 0
EachLabel P (both f g) = EachLabel P f × EachLabel P g
EachLabel P (neg f) = EachLabel P f
EachLabel P (exists v f) = EachLabel P f
EachLabel P (has v l) = P l
EachLabel P (pair p v w) = Unit {0}

-- a record with a small letter in some label, used or not
pub record SmallLetter (r : Record) : Type 0 where
  pub label : ℕ
  pub place : ℕ
  pub low : 97 ≤ get_or (get_or r.labels.labels label no_label).bytes place 0
  pub high : get_or (get_or r.labels.labels label no_label).bytes place 0 ≤ 122

pub record OneLabel : Type 0 where
  -- every run of an accepted log begins with such a line
  pub each : (log : List ℕ) (t : Trace) → Accepted log t → (k : ℕ) → k < length t.runs
      → (s : List ℕ) × WrittenAt log t k s
  -- a to z count as A to Z, and every other byte as itself
  pub byte : (b c : ℕ) → (capital b ≡ c) ↔ CountsAs b c
  -- "has label": a run has the label l if it has one, and its capitals are l
  pub has_label : (log : List ℕ) (t : Trace) → Accepted log t → (k : ℕ) (s : List ℕ) → WrittenAt log t k s
      → (l : List ℕ) → HasLabel t k l ↔ ((s ≢ []) × (capitals s ≡ l))
  -- "same": both have a label, and their capitals are the same
  pub same_label : (log : List ℕ) (t : Trace) → Accepted log t → (j k : ℕ) (s r : List ℕ) → WrittenAt log t j s
      → WrittenAt log t k r → SameLabel t j k ↔ ((s ≢ []) × (r ≢ []) × (capitals s ≡ capitals r))
  -- they are one label of the log, with one number
  pub number : (log : List ℕ) (t : Trace) → Accepted log t → (j k : ℕ) (s r : List ℕ) → WrittenAt log t j s
      → WrittenAt log t k r → ((run_at t j).label.0 ≡ (run_at t k).label.0) ↔ (capitals s ≡ capitals r)
  -- "The hash runs over the capitals."
  pub hash : (log : List ℕ) (t : Trace) → Accepted log t → (k : ℕ) (s : List ℕ) → WrittenAt log t k s → s ≢ []
      → first_place (label_at t.labels (run_at t k).label.0) ≡ fnv_of (capitals s) % label_places
  -- "the record check (capitals only)": the labels of a record that accepted lines leave are of A to Z, 0 to 9 and
  -- underscore, and a record with a small letter is refused with 21
  pub record_labels : (log : List ℕ) (t : Trace) → Accepted log t → (n : ℕ) → 1 ≤ n → n ≤ length t.labels
      → IsLabel (text (label_at t.labels n))
  pub no_small_letter : (r : Record) → SmallLetter r → Valid r → ⊥
  pub refused : (k : LineCall) → SmallLetter k.state → work_size k.layout ≤ length k.work → Ruled k.file
      → k.answer ≡ refusing k.state 21
  -- the formula of a rule file names labels in capitals
  pub rule_labels : (file : List ℕ) (f : Formula) → RuleFile file f → EachLabel IsLabel f

-- ── rules that are written out ──
-- "all rules written out keep the capital form", of the bytes that are written: those of a label in a rule file that is
-- made from a typed rule, and those between quotes in the text of a rule file
pub record WrittenOut : Type 0 where
  pub file : (k : ReadCall) (n : ℕ) → k.answer ≡ Length n → (p : ℕ) → InLabel (take n k.rule') p
      → LabelByte (get_or (take n k.rule') p 0)
  pub text : (k : WriteCall) (n : ℕ) → k.answer ≡ Length n → (p : ℕ) → InQuotes (take n k.text') p → p < n
      → get_or (take n k.text') p 0 ≢ 39 → LabelByte (get_or (take n k.text') p 0)

-- ── in another case ──
-- two calls that are handed and lent the same, but for the case of letters where labels stand
pub record RecasedLine (j k : LineCall) : Type 0 where
  pub layout : j.layout ≡ k.layout
  pub file : RecasedRule j.file k.file
  pub state : j.state ≡ k.state
  pub work : j.work ≡ k.work
  pub line : RecasedLog j.line k.line

pub record RecasedTallied (j k : TalliedCall) : Type 0 where
  pub layout : j.layout ≡ k.layout
  pub file : RecasedRule j.file k.file
  pub state : j.state ≡ k.state
  pub tally : j.tally ≡ k.tally
  pub work : j.work ≡ k.work
  pub line : RecasedLog j.line k.line

pub record RecasedCall (j k : LogCall) : Type 0 where
  pub layout : j.layout ≡ k.layout
  pub mode : j.mode ≡ k.mode
  pub file : RecasedRule j.file k.file
  pub log : RecasedLog j.log k.log
  pub work : j.work ≡ k.work
  pub verdicts : j.verdicts ≡ k.verdicts

pub record RecasedReport (j k : ReportCall) : Type 0 where
  pub layout : j.layout ≡ k.layout
  pub mode : j.mode ≡ k.mode
  pub file : RecasedRule j.file k.file
  pub log : RecasedLog j.log k.log
  pub work : j.work ≡ k.work
  pub verdicts : j.verdicts ≡ k.verdicts
  pub text : j.text ≡ k.text

-- they answer and leave the same: no verdict and no refusal changes, and the record is the same
pub record NoDifference : Type 0 where
  pub line : (j k : LineCall) → RecasedLine j k → (j.answer ≡ k.answer) × (j.work' ≡ k.work')
  pub tallied : (j k : TalliedCall) → RecasedTallied j k → (j.answer ≡ k.answer) × (j.work' ≡ k.work')
  pub log : (j k : LogCall) → RecasedCall j k → SameLeft j k
  pub report : (j k : ReportCall) → RecasedReport j k → SameLeftReport j k
  -- a rule file meets the same refusals, 5 for its list too, and has the same formula
  pub rule_refused : (file file' : List ℕ) → RecasedRule file file' → (c : ℕ) → MetRule file c ↔ MetRule file' c
  pub rule : (file file' : List ℕ) → RecasedRule file file' → (f : Formula) → RuleFile file f ↔ RuleFile file' f
  -- the rule file of a typed rule, and the text of a rule file
  pub reading : (j k : ReadCall) → RecasedText j.text k.text → j.rule ≡ k.rule
      → (j.answer ≡ k.answer) × (j.rule' ≡ k.rule')
  pub writing : (j k : WriteCall) → RecasedRule j.file k.file → j.text ≡ k.text
      → (j.answer ≡ k.answer) × (j.text' ≡ k.text')
  -- the runs that make a rule fail
  pub finding : (file file' : List ℕ) → RecasedRule file file' → (r : Record) (a b : Finding) → FindsFirst file r a
      → FindsFirst file' r b → a ≡ b
  pub passing : (file file' : List ℕ) → RecasedRule file file' → (r : Record) (x : Slip) (a b : Passing)
      → ReadsSlip file r x a → ReadsSlip file' r x b → a ≡ b

pub record LetterCase : Type 0 where
  pub one : OneLabel
  pub out : WrittenOut
  pub same : NoDifference
