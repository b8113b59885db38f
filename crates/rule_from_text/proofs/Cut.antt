-- The first 4,097 bytes of a text decide what is printed. Where they are not the whole text, both are above 4,096 bytes, and refused.
use Prim.Native.Nat.{ℕ, ◌<◌}
use mathlib.Core.Path.{◌≡◌, ap, sym, ◌∙◌}
use mathlib.Core.List.{List, []}
use native.Mathlib.Omega.{arith}
use lib.ListN.{length, take}
use lib.Seq.{take_all, length-take-le}
use borrow.Author.Tests.{lt-ltb}
use Rattle.lists.proofs.Cases.{either_lt}
use Rattle.rules.specs.Limits.{max_file_bytes}
use Rattle.typed.specs.Grammar.{read_text}
use Rattle.typed_file.specs.Answer.{bytes_of, typed_answer}
use Rattle.output.specs.declared.Written.{Written}
use Rattle.output.specs.declared.Written.TheVariants.{Refused}
use Rattle.told.specs.Told.{refusal_line, output_of, error_of}
use Rattle.rule_from_text.specs.Printed.{text_room, file_printed, refusal_printed}

-- "25 for text .. above 4,096 bytes"
too_long : (text : List ℕ) → 4096 < length text → typed_answer text max_file_bytes ≡ Refused 25
unfolding typed_answer read_text
too_long text h = simp (lt-ltb 4096 (length text) h)

-- what is the same for all texts that are too long is decided by the first bytes
first_bytes_decide : (f : List ℕ → List ℕ) (s : List ℕ) → ((text : List ℕ) → 4096 < length text → f text ≡ s) → (text : List ℕ) → f (take text_room text) ≡ f text
first_bytes_decide f s long text =
    either_lt (length text) text_room
    (λ h. ap f (take_all text_room text (omega arith)))
    (λ h. long (take text_room text) (omega (arith, length-take-le text_room text h)) ∙ sym (long text (omega arith)))

-- THE LAW: nothing past the first 4,097 bytes of a text changes what is printed.
pub first_bytes_decide_file : (text : List ℕ) → file_printed (take text_room text) ≡ file_printed text
unfolding file_printed
first_bytes_decide_file =
    first_bytes_decide file_printed []
    (λ text h. ap (λ (w : Written). output_of w (bytes_of text (read_text text))) (too_long text h))

pub first_bytes_decide_refusal : (text : List ℕ) → refusal_printed (take text_room text) ≡ refusal_printed text
unfolding refusal_printed
first_bytes_decide_refusal = first_bytes_decide refusal_printed (refusal_line 25) (λ text h. ap error_of (too_long text h))
