-- The printed text. "It prints for each accepted line its number, a space, and `H` or `F`; for a refused line its number, a space,
-- `R` and the refusal joined (as `3 R15`), and no later line. Last comes `T` and the five tally counts, in the order above, a space
-- before each. Numbers are decimal, and every line ends in LF. A refused rule prints `0 R` and the number joined, and nothing else."
-- Numbers, the line of a letter or of a refusal, and a count stand in `text_pieces`.
use Rattle.std.specs.Prelude.{ℕ, ◌+◌, List, [], ◌∷◌, ◌++◌}
use Rattle.lines.specs.Log.{lines_of}
use Rattle.trace.specs.Trace.{Trace, no_trace, step, next}
use Rattle.rules.specs.declared.Rule.{Rule}
use Rattle.rules.specs.Rules.{rule_of, formula_of}
use Rattle.logic.specs.declared.Verdict.{Verdict}
use Rattle.logic.specs.declared.Verdict.TheVariants.{Holds, Fails}
use Rattle.logic.specs.Verdict.{verdict_of}
use Rattle.tallies.specs.declared.Tally.{Tally}
use Rattle.text_pieces.specs.Pieces.{letter_line, refused_text, count_text}
use Rattle.single.specs.Line.{with_rule}
use Rattle.reading.specs.Reading.{by_answer}
use Rattle.tallies.specs.Tally.{tally_of, failed}

-- "`H` or `F`"
abbrev pub letter : Verdict → ℕ
letter Holds = 72
letter Fails = 70

abbrev pub line_text : ℕ → Verdict → List ℕ
line_text n v = letter_line n (letter v)

-- "`T` and the five tally counts, in the order above": lines, begun, finished, open, failing
unfoldable pub tally_text : Tally → List ℕ
tally_text y =
    84 ∷ count_text y.lines ++ (count_text y.begun ++ (count_text y.finished ++ (count_text y.running ++ (count_text y.failing ++ (10 ∷ [])))))

-- the text of the lines that are left, after those that t stands for, n of which failed
unfoldable pub text_from : List ℕ → Rule → Trace → ℕ → List (List ℕ) → List ℕ
text_from file x t n [] = tally_text (tally_of t n)
text_from file x t n (l ∷ ls) =
    by_answer (step (next t) l)
    (λ u. line_text u.lines (verdict_of u (formula_of file x)) ++ text_from file x u (n + failed (verdict_of u (formula_of file x))) ls)
    (λ c. refused_text (t.lines + 1) c ++ tally_text (tally_of t n))

-- the text of a rule file and a log
unfoldable pub report_text : List ℕ → List ℕ → List ℕ
report_text file log = with_rule (rule_of file) (λ c. refused_text 0 c) (λ x. text_from file x no_trace 0 (lines_of log))
