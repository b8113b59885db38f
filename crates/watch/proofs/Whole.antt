-- Why the answers together are the report that `log_check` prints of the same input. It starts as `report-starts` says; each accepted line
-- prints its piece and leaves the report of the bytes after it, and a refused line its piece and the tally (`AnswersLine`); at the end of
-- the input the tally is left (`AnswersEnd`). What a refused line asks of the bytes read for it holds of those that `read_line` reads:
use Prim.Native.Nat.{ℕ, zero, suc, ◌<◌, ◌≤◌}
use mathlib.Core.Path.{◌≡◌, refl, ap, ◌∙◌}
use mathlib.Core.Bool.{true, false}
use mathlib.Core.Logic.{◌⊎◌, inl, inr, ⊎_elim}
use mathlib.Core.List.{List, [], ◌∷◌, ◌++◌}
use native.Mathlib.Omega.{arith}
use lib.ListN.{length, take, length-append}
use lib.Seq.{take-append-le}
use borrow.Author.Tests.{eq-eqb, ne_eqb}
use Rattle.lists.specs.Lists.{has?}
use Rattle.lists.proofs.Cases.{either_eq, no_both}
use Rattle.lists.proofs.Lists.{append-nil}
use Rattle.lines.specs.Log.{lines_of}
use Rattle.lines.proofs.Log.{refused_without_lf}
use Rattle.trace.specs.Trace.{no_trace}
use Rattle.rules.specs.declared.Rule.{Rule}
use Rattle.std.specs.Prelude.{Ok}
use Rattle.rules.specs.Rules.{rule_of}
use Rattle.single.proofs.LineCall.{with_taken}
use Rattle.report.specs.Text.{text_from, report_text}
use Rattle.watch.specs.Watch.{OneLine, FirstBytes}

pub report-starts : (file : List ℕ) (x : Rule) (input : List ℕ) → rule_of file ≡ Ok x → report_text file input ≡ text_from file x no_trace 0 (lines_of input)
unfolding report_text
report-starts file x input e = with_taken (rule_of file) x _ _ e

free_take : (n : ℕ) (s : List ℕ) → has? 10 s ≡ false → has? 10 (take n s) ≡ false
free_take zero s f = refl
free_take (suc n) [] f = refl
free_take (suc n) (b ∷ s) f =
    either_eq b 10
    (λ q. let g : true ≡ false = simp (eq-eqb b 10 q) at f in no_both g)
    (λ q. let g : has? 10 s ≡ false = simp (ne_eqb b 10 q) at f in simp (ne_eqb b 10 q) (free_take n s g))

first_forty : (s rest : List ℕ) → (40 ≤ length s) ⊎ (rest ≡ []) → take 40 (s ++ rest) ≡ take 40 s
first_forty s rest w = ⊎_elim (λ h. take-append-le 40 s rest h) (λ e. ap (λ (r : List ℕ). take 40 (s ++ r)) e ∙ ap (take 40) (append-nil s)) w

-- THE LAW: 40 bytes without an LF, or fewer at the end of the input, or a line
pub bytes_are_first : (s rest : List ℕ) → OneLine s → 0 < length s → (40 ≤ length s) ⊎ (rest ≡ []) → FirstBytes s rest
bytes_are_first s rest o h w =
    ⊎_elim
    (λ f. inl (f rest))
    (λ f. inr (refused_without_lf (s ++ rest) 0 (omega (arith, length-append s rest)) (ap (has? 10) (first_forty s rest w) ∙ free_take 40 s f), f))
    o
