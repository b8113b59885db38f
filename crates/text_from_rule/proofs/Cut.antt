-- The first 600 bytes of a rule file decide what is printed. Where they are not the whole file, the file is too long and refused, and its
-- first 600 bytes are refused with the same number.
use Prim.Native.Nat.{ℕ, ◌≤◌}
use mathlib.Core.Path.{◌≡◌, refl, ap, sym, ◌∙◌}
use mathlib.Core.List.{List, []}
use native.Mathlib.Omega.{arith}
use lib.ListN.{length, take}
use lib.Seq.{take_all}
use Rattle.lists.proofs.Cases.{either_lt}
use Rattle.rules.specs.Rules.{rule_of}
use Rattle.std.specs.Prelude.{Result, Ok, Err}
use Rattle.refusals.specs.Refusal.{number}
use Rattle.refusals.specs.declared.Refusal.{Refusal}
use Rattle.rules.specs.declared.Rule.{Rule}
use Rattle.rules.proofs.Rules.{rule_taken}
use Rattle.rules.proofs.Cut.{first_bytes_decide_rule}
use Rattle.rule_text.specs.Text.{answer_of, bytes_of, text_answer}
use Rattle.output.specs.declared.Written.{Written}
use Rattle.output.specs.declared.Written.TheVariants.{Refused}
use Rattle.told.specs.Told.{refusal_line, output_of, error_of}
use Rattle.text_from_rule.specs.Printed.{rule_room, text_size, text_printed, refusal_printed}

refused : (file : List ℕ) (e : Refusal) → rule_of file ≡ Err e → text_answer file text_size ≡ Refused (number e)
unfolding text_answer
refused file r e = ap (answer_of file) e

-- what the refusal's number decides for a refused file is decided by the first bytes
module _ (f : List ℕ → List ℕ) (s : ℕ → List ℕ) (told : (file : List ℕ) (e : Refusal) → rule_of file ≡ Err e → f file ≡ s (number e)) where
  long-file : (file : List ℕ) → 600 ≤ length file → (r : Result Rule Refusal) → rule_of file ≡ r → f (take rule_room file) ≡ f file
  long-file file h (Ok x) e = absurd (omega (arith, (rule_taken file x e).size))
  long-file file h (Err c) e = told (take rule_room file) c (first_bytes_decide_rule file ∙ e) ∙ sym (told file c e)

  first_bytes_decide : (file : List ℕ) → f (take rule_room file) ≡ f file
  first_bytes_decide file =
      either_lt (length file) rule_room
      (λ h. ap f (take_all rule_room file (omega arith)))
      (λ h. long-file file h (rule_of file) refl)

-- THE LAW: nothing past the first 600 bytes of a rule file changes what is printed.
pub first_bytes_decide_text : (file : List ℕ) → text_printed (take rule_room file) ≡ text_printed file
unfolding text_printed
first_bytes_decide_text =
    first_bytes_decide text_printed (λ _. [])
    (λ file c e. ap (λ (w : Written). output_of w (bytes_of file (rule_of file))) (refused file c e))

pub first_bytes_decide_refusal : (file : List ℕ) → refusal_printed (take rule_room file) ≡ refusal_printed file
unfolding refusal_printed
first_bytes_decide_refusal = first_bytes_decide refusal_printed refusal_line (λ file c e. ap error_of (refused file c e))
