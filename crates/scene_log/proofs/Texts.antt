-- The calls that read and write typed rules.
use Prim.Native.Nat.{ℕ}
use mathlib.Core.Path.{◌≡◌, ap, ap₂, sym, subst, ◌∙◌}
use mathlib.Core.List.{List, ◌++◌}
use native.Mathlib.Omega.{arith}
use lib.ListN.{length, take, drop}
use lib.Seq.{take_at}
use Rattle.rules.specs.Rules.{rule_of}
use Rattle.typed.specs.Grammar.{read_text}
use Rattle.output.specs.Written.{left_by}
use Rattle.output.specs.declared.Written.{Written}
use Rattle.typed_file.specs.Answer.{bytes_of, ReadsText}
use Rattle.rule_text.specs.Text.{text_answer, WritesText}
use Rattle.rule_text.specs.Text as Text
use Rattle.typed_meaning.specs.Written.{WritesSaid}
use Rattle.typed_meaning.proofs.TextMet.{refused_met, written_said}
use Rattle.answer_numbers.specs.Numbers.{written_number, WrittenFits}
use Rattle.scene_log.specs.Texts.{written_numbered, ReadsTextNumber, WritesTextNumber}

-- the answer as a number, and the buffer
numbered : (a w : Written) (bytes before after : List ℕ) (n : ℕ) → n ≡ written_number a → a ≡ w → after ≡ left_by a bytes before
    → ◌≡◌ {A = ℕ × List ℕ} (n, after) (written_numbered w bytes before)
numbered a w bytes before after n e q l = ap₂ (λ (i : ℕ) (b : List ℕ). (i, b)) e l ∙ ap (λ (z : Written). written_numbered z bytes before) q

module _ (text before : List ℕ) (a : Written) (after : List ℕ) (r : ReadsText text before a after) where
  pub rule_fits : WrittenFits a
  rule_fits n e = omega (arith, r.few n e)

  pub reads_text : (n : ℕ) → n ≡ written_number a → ReadsTextNumber text before n after
  reads_text n e = record {
    answer = numbered a _ (bytes_of text (read_text text)) before after n e r.answer r.left;
    meaning = subst (λ (z : Written). ReadsText text before z after) r.answer r;
    refused = refused_met text (length before);
    written = λ m q.
        let w = written_said text (length before) m q in
        let bytes = bytes_of text (read_text text) in
        let e : after ≡ bytes ++ drop m before = r.left ∙ ap (λ (z : Written). left_by z bytes before) (r.answer ∙ q) in
        subst (WritesSaid text m) (sym (ap (take m) e ∙ take_at bytes (drop m before) m (sym w.size))) w;
  }

module _ (file before : List ℕ) (a : Written) (after : List ℕ) (r : WritesText file before a after) where
  pub text_fits : WrittenFits a
  text_fits n e = r.few n e

  pub writes_text : (n : ℕ) → n ≡ written_number a → WritesTextNumber file before n after
  writes_text n e = record {
    answer = numbered a _ (Text.bytes_of file (rule_of file)) before after n e r.answer r.left;
    meaning = subst (λ (z : Written). WritesText file before z after) r.answer r;
  }
